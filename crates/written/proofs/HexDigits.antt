-- Digits read back: the digits of a block are those of no other.
use Rattle.std.proofs.Common.{◌≡◌, ℕ, ◌+◌, ◌*◌, ◌/◌, ◌%◌, ◌<◌, ◌==◌, true, get_or, refl, ap, ◌∙◌, ap₂, arith}
use Rattle.std.proofs.lemmas.Bool.{agree_below_at, eqb-true, cond-true, cond-false, eq-eqb, ne_eqb}
use Rattle.kinds.specs.declared.blocks.Block.{Block}
use Rattle.kinds.specs.Kinds.{SameConstant}
use Rattle.kinds.specs.Blocks.{block_bytes, byte, blocks}
use Rattle.kinds.specs.Rows.{get_or_row}
use Rattle.kinds.specs.BlockLaws.{block_same}
use Rattle.written.specs.Hex.{hex_value_of, hex_digit_of, of_digits, digit_at, digits_of}

-- the value of the digit of a value
pub value_digit : (v : ℕ) → v < 16 → hex_value_of (hex_digit_of v) ≡ v
value_digit v h = eqb-true _ _ (agree_below_at (λ w. hex_value_of (hex_digit_of w) == w) (λ w. true) 16 v refl h)

high_digit : (x : Block) (i : ℕ) → i < block_bytes → get_or (digits_of x) (2 * i) 0 ≡ hex_digit_of (byte x i / 16)
high_digit x i l =
    let even : 2 * i % 2 ≡ 0 = omega arith in
    let half : 2 * i / 2 ≡ i = omega arith in
    get_or_row (digit_at x) (2 * block_bytes) (2 * i) (omega arith)
    ∙ ap hex_digit_of (cond-true _ _ _ (eq-eqb (2 * i % 2) 0 even) ∙ ap (λ j. byte x j / 16) half)

low_digit : (x : Block) (i : ℕ) → i < block_bytes → get_or (digits_of x) (2 * i + 1) 0 ≡ hex_digit_of (byte x i % 16)
low_digit x i l =
    let odd : (2 * i + 1) % 2 ≡ 1 = omega arith in
    let half : (2 * i + 1) / 2 ≡ i = omega arith in
    get_or_row (digit_at x) (2 * block_bytes) (2 * i + 1) (omega arith)
    ∙ ap hex_digit_of (cond-false _ _ _ (ne_eqb ((2 * i + 1) % 2) 0 (λ e. omega arith)) ∙ ap (λ j. byte x j % 16) half)

-- a block of bytes is that of its digits
pub digits_back : (x : Block) → ((i : ℕ) → i < block_bytes → byte x i < 256) → SameConstant blocks (of_digits (digits_of x)) x
digits_back x small =
    block_same (of_digits (digits_of x)) x (λ i l.
    let below = small i l in
    let high : hex_value_of (get_or (digits_of x) (2 * i) 0) ≡ byte x i / 16 = ap hex_value_of (high_digit x i l) ∙ value_digit (byte x i / 16) (omega arith) in
    let low : hex_value_of (get_or (digits_of x) (2 * i + 1) 0) ≡ byte x i % 16 = ap hex_value_of (low_digit x i l) ∙ value_digit (byte x i % 16) (omega arith) in
    get_or_row _ block_bytes i l ∙ ap₂ (λ a b. 16 * a + b) high low ∙ (omega arith))
