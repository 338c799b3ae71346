-- Hexadecimal digits, as bytes of text: 0 to 9 are the bytes 48 to 57, a to f the bytes 97 to 102.
--   between a b x    x is a at least and b at most
--   hex_value_of b   the value of the digit b; 0 where b is no digit
--   hex_digit_of v   the digit of the value v, which is below 16
--   of_digits ds     the block of the digits ds, two for each byte, the high half first; digits past the end count as 0
--   digit_at x j     digit j of the block x, from 0
--   digits_of x      the digits of the block x, two for each byte, the high half first
use Rattle.std.specs.Prelude.{ℕ, ◌+◌, ◌-◌, ◌*◌, ◌/◌, ◌%◌, Bool, cond, ◌&&◌, List, ◌==◌, nat_le, nat_lt, slice_index}
use Rattle.kinds.specs.declared.blocks.Block.{Block}
use Rattle.kinds.specs.Blocks.{block_bytes, byte, row, of_bytes}

abbrev pub between : ℕ → ℕ → ℕ → Bool
between a b x = nat_le a x && nat_le x b

abbrev pub hex_value_of : ℕ → ℕ
hex_value_of b = cond (between 48 57 b) (b - 48) (cond (between 97 102 b) (b - 87) 0)

abbrev pub hex_digit_of : ℕ → ℕ
hex_digit_of v = cond (nat_lt v 10) (v + 48) (v + 87)

abbrev pub of_digits : List ℕ → Block
of_digits ds = of_bytes (row (λ i. 16 * hex_value_of (slice_index ds (2 * i)) + hex_value_of (slice_index ds (2 * i + 1))) block_bytes)

abbrev pub digit_at : Block → ℕ → ℕ
digit_at x j = hex_digit_of (cond (j % 2 == 0) (byte x (j / 2) / 16) (byte x (j / 2) % 16))

abbrev pub digits_of : Block → List ℕ
digits_of x = row (digit_at x) (2 * block_bytes)
