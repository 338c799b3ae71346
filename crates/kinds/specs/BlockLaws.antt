-- Blocks keep the laws of exclusive or.
use Rattle.std.specs.Prelude.{◌≡◌, ℕ, ◌<◌, bit_xor, refl}
use Rattle.std.specs.Bool.{passes}
use Rattle.std.proofs.Common.{ap, ap₂, sym, ◌∙◌}
use Rattle.std.proofs.lemmas.Bool.{eqb-true, eq-eqb}
use Rattle.std.proofs.lemmas.Nat.{xor_comm}
use Rattle.std.specs.Int.Bits.{xor_assoc, xor_self}
use Rattle.kinds.specs.declared.blocks.Block.{Block}
use Rattle.kinds.specs.Kinds.{SameConstant, Lawful}
use Rattle.kinds.specs.Blocks.{block_bytes, byte, blocks}
use Rattle.kinds.specs.Tests.{passes_true}
use Rattle.kinds.specs.Rows.{get_or_row, each_in, each_out}

-- equal byte by byte
abbrev pub Equal : Block → Block → Type 0
Equal x y = (i : ℕ) → i < block_bytes → byte x i ≡ byte y i

pub block_same : (x y : Block) → Equal x y → SameConstant blocks x y
block_same x y h = passes _ (each_in _ block_bytes (λ i l. eq-eqb _ _ (h i l)))

pub same_bytes : (x y : Block) → SameConstant blocks x y → Equal x y
same_bytes x y h i l = eqb-true _ _ (each_out _ block_bytes (passes_true _ h) i l)

pub byte_join : (x y : Block) (i : ℕ) → i < block_bytes → byte (blocks.join x y) i ≡ bit_xor (byte x i) (byte y i)
byte_join x y i l = get_or_row _ block_bytes i l

pub byte_zero : (i : ℕ) → i < block_bytes → byte blocks.zero i ≡ 0
byte_zero i l = get_or_row _ block_bytes i l

pub blocks_lawful : Lawful blocks
blocks_lawful =
    record {
      same_self = λ a. block_same a a (λ i l. refl);
      same_sym = λ {a} {b} p. block_same b a (λ i l. sym (same_bytes a b p i l));
      same_trans = λ {a} {b} {c} p q. block_same a c (λ i l. same_bytes a b p i l ∙ same_bytes b c q i l);
      join_same = λ {a} {b} {c} {d} p q. block_same (blocks.join a c) (blocks.join b d) (λ i l. byte_join a c i l ∙ ap₂ bit_xor (same_bytes a b p i l) (same_bytes c d q i l) ∙ sym (byte_join b d i l));
      assoc = λ a b c. block_same (blocks.join (blocks.join a b) c) (blocks.join a (blocks.join b c)) (λ i l.
          byte_join (blocks.join a b) c i l
          ∙ ap (λ w. bit_xor w (byte c i)) (byte_join a b i l)
          ∙ xor_assoc (byte a i) (byte b i) (byte c i)
          ∙ sym (byte_join a (blocks.join b c) i l ∙ ap (bit_xor (byte a i)) (byte_join b c i l)));
      comm = λ a b. block_same (blocks.join a b) (blocks.join b a) (λ i l. byte_join a b i l ∙ xor_comm (byte a i) (byte b i) ∙ sym (byte_join b a i l));
      unit = λ a. block_same (blocks.join blocks.zero a) a (λ i l. byte_join blocks.zero a i l ∙ ap (λ w. bit_xor w (byte a i)) (byte_zero i l));
      self = λ a. block_same (blocks.join a a) blocks.zero (λ i l. byte_join a a i l ∙ xor_self (byte a i) ∙ sym (byte_zero i l));
    }
