-- The head and the trail of a session, and how they change.
--   Memory             how many slots and ledger entries were lent to a session
--   Fit h m            the head h fits the memory m
--   marks_of h         the marks of the head h, the latest last
--   SameCounts h h'    h' has the counts of h
--   NewHead n u h      h is just opened: n variables, u usable entries, no equation and no mark
--   WithMark h m h'    h' has one mark more than h, at m equations
--   Marking h r h'     what marking gives and leaves
--   Unmarking h r h'   what taking the latest mark gives and leaves
--   counted_head h m   m equations standing
--   bindings_of t      the bindings of the trail t, the latest last
--   Extended t b t'    t' has one binding more than t, b
--   latest_first t     the bindings, the latest first
--   Noting t taken i t'   what noting gives
--   Popping m t r t'   what taking the latest binding of an entry from m on gives and leaves
use Rattle.std.specs.Prelude.{◌≡◌, ℕ, ◌<◌, ◌≤◌, List, [], ◌∷◌, ◌++◌, length, reverse, Ok, Err, Result, Some, None, Option}
use Rattle.copy_vecs.specs.Items.{items}
use Rattle.refusals.specs.declared.Refusal.{Refusal}
use Rattle.refusals.specs.declared.Refusal.TheVariants.{MarksFull, NoMark}
use Rattle.terms.specs.Limits.{InRange, most_variables}
use Rattle.steps.specs.declared.Binding.{Binding}
use Rattle.steps.specs.declared.Taken.{Taken}
use Rattle.steps.specs.declared.Taken.TheVariants.{Follows, Clashes, Binds}
use Rattle.steps.specs.Trails.{Ended}
use Rattle.heads.specs.declared.head.Head.{Head}
use Rattle.heads.specs.declared.trail.Trail.{Trail}
use Rattle.heads.specs.Limits.{most_marks}

pub record Memory : Type 0 where
  pub slots : ℕ
  pub ledger : ℕ

pub record Fit (h : Head) (m : Memory) : Type 0 where
  pub range : InRange h.size
  pub room : h.size ≤ m.slots
  pub standing : h.standing ≤ h.usable
  pub entries : h.usable ≤ m.ledger

abbrev pub marks_of : Head → List ℕ
marks_of h = items h.marks

pub record NewHead (n u : ℕ) (h : Head) : Type 0 where
  pub size : h.size ≡ n
  pub standing : h.standing ≡ 0
  pub usable : h.usable ≡ u
  pub marks : marks_of h ≡ []

pub record SameCounts (h h' : Head) : Type 0 where
  pub size : h'.size ≡ h.size
  pub standing : h'.standing ≡ h.standing
  pub usable : h'.usable ≡ h.usable

pub record WithMark (h : Head) (m : ℕ) (h' : Head) : Type 0 where
  pub counts : SameCounts h h'
  pub marks : marks_of h' ≡ marks_of h ++ m ∷ []

-- what marking gives: one mark more, unless as many are held as can be
abbrev pub Marking : Head → Result (Unit {0}) Refusal → Head → Type 0
Marking h (Ok x) h' = (length (marks_of h) < most_marks) × WithMark h h.standing h'
Marking h (Err q) h' = (q ≡ MarksFull) × (length (marks_of h) ≡ most_marks) × (h' ≡ h)

-- what unmarking gives: the latest mark, which is the one that the head has more than before, unless none is held
abbrev pub Unmarking : Head → Result ℕ Refusal → Head → Type 0
Unmarking h (Ok m) h' = WithMark h' m h
Unmarking h (Err q) h' = (q ≡ NoMark) × (marks_of h ≡ []) × (h' ≡ h)

abbrev pub counted_head : Head → ℕ → Head
counted_head h m = record h { standing = m }

abbrev pub bindings_of : Trail → List Binding
bindings_of t = items t.bindings

abbrev pub Extended : Trail → Binding → Trail → Type 0
Extended t b t' = bindings_of t' ≡ bindings_of t ++ b ∷ []

abbrev pub latest_first : Trail → List Binding
latest_first t = reverse (bindings_of t)

-- what noting gives, of what ledger entry i did: its binding, if it made one; there is room for one of each variable
abbrev pub Noting : Trail → Taken → ℕ → Trail → Type 0
Noting t Follows i t' = t' ≡ t
Noting t Clashes i t' = t' ≡ t
Noting t (Binds p s) i t' =
    (length (bindings_of t) < most_variables → Extended t (record { variable = p; entry = i; changed = s }) t')
    × (most_variables ≤ length (bindings_of t) → t' ≡ t)

-- what popping gives: the latest binding, if there is one and an entry from m on made it
abbrev pub Popping : ℕ → Trail → Option Binding → Trail → Type 0
Popping m t None t' = Ended m (latest_first t) × (t' ≡ t)
Popping m t (Some b) t' = Extended t' b t × (m ≤ b.entry)
