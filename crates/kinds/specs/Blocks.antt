-- The kind of blocks.
--   block_bytes   the number of bytes of a block
--   byte x i      byte i of the block x
--   row f n       the list f 0, f 1, .. of n places
--   each p n      p holds of every place below n
--   blocks        zero is all zero bytes, joining is exclusive or byte by byte, equal blocks are the same
use Rattle.std.specs.Prelude.{ℕ, Bool, List, map, bit_xor, nat_eq, slice_index}
use Rattle.std.specs.List.{list_all, range_with_len}
use Rattle.kinds.specs.declared.blocks.Block.{Block}
use Rattle.kinds.specs.Kinds.{Operations}

abbrev pub block_bytes : ℕ
block_bytes = 16

abbrev pub byte : Block → ℕ → ℕ
byte x i = slice_index x.bytes i

unfoldable pub row : (ℕ → ℕ) → ℕ → List ℕ
row f n = map f (range_with_len 0 n)

unfoldable pub each : (ℕ → Bool) → ℕ → Bool
each p n = list_all p (range_with_len 0 n)

abbrev pub of_bytes : List ℕ → Block
of_bytes l = record { bytes = l }

abbrev pub blocks : Operations Block
blocks = record {
  zero = of_bytes (row (λ i. 0) block_bytes);
  join = λ x y. of_bytes (row (λ i. bit_xor (byte x i) (byte y i)) block_bytes);
  same = λ x y. each (λ i. nat_eq (byte x i) (byte y i)) block_bytes;
}
