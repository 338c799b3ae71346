-- What the calls on a table give and leave behind.
--   Refused n i q         the refusal of the input i for n variables: a size out of range first, then the input's own
--   Outcome n i P r       r is a value with P where the size is in range and the input sound, else the refusal
--   input table l r room  an input by its parts
--   input_of s room       the input of the sides s
--   left_term k s, right_term k s   the terms of the sides s
--   Cleared n before after  the first n bytes are zero, the others as before
--   PastMemory n i        the checks of size, table and memory are passed
--   Worked Past n before after   the first n bytes are zero and the others as before where Past holds, else all are as before
--   byte_set w i          byte i of w is not zero
use Rattle.std.specs.Prelude.{◌≡◌, ℕ, ◌<◌, ◌≤◌, Bool, not, List, length, Ok, Err, Result, ◌==◌, bit_xor, slice_index, slice_set}
use Rattle.kinds.specs.Kinds.{Operations}
use Rattle.refusals.specs.declared.Refusal.{Refusal}
use Rattle.refusals.specs.declared.Refusal.TheVariants.{BadSize}
use Rattle.terms.specs.declared.nodes.Node.{Node}
use Rattle.terms.specs.Limits.{InRange}
use Rattle.terms.specs.declared.normal.Normal.{Normal}
use Rattle.terms.specs.Sums.{gather}
use Rattle.terms.specs.Terms.{Term}
use Rattle.terms.specs.NormalForms.{zero_form, joined, normal}
use Rattle.tables.specs.declared.Sides.{Sides}
use Rattle.tables.specs.Tables.{Input, term_at, Sized, Sound, Unsound}

pub data Refused {C : Type 0} (n : ℕ) (i : Input C) : Refusal → Type 0 where
  bad_size : (InRange n → ⊥) → Refused n i BadSize
  unsound : {q : Refusal} → InRange n → Unsound n i q → Refused n i q

abbrev pub Outcome : {C A : Type 0} → ℕ → Input C → (A → Type 0) → Result A Refusal → Type 0
Outcome n i P (Ok x) = InRange n × Sound n i × P x
Outcome n i P (Err q) = Refused n i q

abbrev pub input : {C : Type 0} → List (Node C) → ℕ → ℕ → ℕ → Input C
input table l r room = record { table = table; left = l; right = r; room = room }

abbrev pub input_of : {C : Type 0} → Sides C → ℕ → Input C
input_of s room = input s.table.now s.left s.right room

abbrev pub left_term : {C : Type 0} → Operations C → Sides C → Term C
left_term k s = term_at k s.table.now s.left

abbrev pub right_term : {C : Type 0} → Operations C → Sides C → Term C
right_term k s = term_at k s.table.now s.right

pub record Cleared (n : ℕ) (before after : List ℕ) : Type 0 where
  pub length_kept : length after ≡ length before
  pub zeroed : (i : ℕ) → i < n → slice_index after i ≡ 0
  pub beyond : (i : ℕ) → n ≤ i → slice_index after i ≡ slice_index before i

abbrev pub PastMemory : {C : Type 0} → ℕ → Input C → Type 0
PastMemory n i = InRange n × Sized i.table × (length i.table ≤ i.room)

abbrev pub Worked : Type 0 → ℕ → List ℕ → List ℕ → Type 0
Worked Past n before after = (Past → Cleared n before after) × ((Past → ⊥) → after ≡ before)

abbrev pub byte_set : List ℕ → ℕ → Bool
byte_set w i = not (slice_index w i == 0)

-- what the code works with

-- byte i counted once more, modulo two
abbrev pub flipped : List ℕ → ℕ → List ℕ
flipped w i = slice_set w i (bit_xor (slice_index w i) 1)

-- the join of the normal forms of the nodes whose byte is set
abbrev pub picked_sum : {C : Type 0} → Operations C → List (Node C) → List ℕ → Normal C
picked_sum k table w = gather (zero_form k) (joined k) (λ i. normal k (term_at k table i)) (length table) (byte_set w)
