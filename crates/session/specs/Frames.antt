-- What a call on a session leaves as it was.
--   SameMemory s t   t works on the memory of s
--   Unchanged s t    head, trail, slots and ledger are exactly as they were
--   OnlyNext s t     no ledger entry but the next is written, and none beyond the usable ones
--   PastInput s i    the session is open, and the checks of the table's size and of the working bytes are passed
use Rattle.std.specs.Prelude.{◌≡◌, ℕ, ◌≤◌, length, drop, ◌≢◌, slice_index_or}
use Rattle.terms.specs.declared.normal.Normal.{Normal}
use Rattle.tables.specs.Tables.{Input, Sized}
use Rattle.session.specs.declared.Session.{Session}
use Rattle.session.specs.Keeping.{slots_of, ledger_of, memory_of, standing_of, usable_of, Ready}

pub record SameMemory {C : Type 0} (s t : Session C) : Type 0 where
  pub slots : t.slots.ghost_name ≡ s.slots.ghost_name
  pub ledger : t.ledger.ghost_name ≡ s.ledger.ghost_name
  pub lengths : memory_of t ≡ memory_of s

pub record Unchanged {C : Type 0} (s t : Session C) : Type 0 where
  pub head : t.head ≡ s.head
  pub trail : t.trail ≡ s.trail
  pub slots : slots_of t ≡ slots_of s
  pub ledger : ledger_of t ≡ ledger_of s

pub record OnlyNext {C : Type 0} (s t : Session C) : Type 0 where
  pub others : (i : ℕ) → (i ≢ standing_of s) → (x : Normal C) → slice_index_or (ledger_of t) i x ≡ slice_index_or (ledger_of s) i x
  pub beyond : drop (usable_of s) (ledger_of t) ≡ drop (usable_of s) (ledger_of s)

abbrev pub PastInput : {C : Type 0} → Session C → Input C → Type 0
PastInput s i = Ready s × Sized i.table × (length i.table ≤ i.room)
