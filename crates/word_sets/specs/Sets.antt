-- Sets of small numbers. Nothing outside this crate knows how a set is kept: everything else goes by `has` and the lemmas of
-- proofs/SetFacts.antt.
--   capacity                  the numbers of a set are below this
--   has s v                   number v is in the set s
--   empty                     the set of no number
--   singleton v               the set of v alone
--   symmetric_difference s t  the numbers in exactly one of s and t
--   equal s t                 s and t are the same set
--   Highest s v               v is the highest number of s
--   differs b c               exactly one of b and c is true
use Rattle.std.specs.Prelude.{◌≡◌, ℕ, ◌^◌, ◌≤◌, Bool, true, false, not, ◌==◌, bit_xor}
use Rattle.std.specs.Int.{bit_at}
use Rattle.word_sets.specs.declared.WordSet.{WordSet}

abbrev pub capacity : ℕ
capacity = 64

unfoldable pub has : WordSet → ℕ → Bool
has s v = (bit_at s.bits v == 1)

unfoldable pub empty : WordSet
empty = record { bits = 0 }

unfoldable pub singleton : ℕ → WordSet
singleton v = record { bits = 2 ^ v }

unfoldable pub symmetric_difference : WordSet → WordSet → WordSet
symmetric_difference s t = record { bits = bit_xor s.bits t.bits }

unfoldable pub equal : WordSet → WordSet → Bool
equal s t = (s.bits == t.bits)

abbrev pub Highest : WordSet → ℕ → Type 0
Highest s v = (has s v ≡ true) × ((u : ℕ) → has s u ≡ true → u ≤ v)

abbrev pub differs : Bool → Bool → Bool
differs true b = not b
differs false b = b
