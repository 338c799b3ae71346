-- The plain account of a session: what its calls mean, in terms of equations and substitutions alone. Nothing here knows
-- of slots, of pivots or of elimination.
--   Account C        size, usable ledger length, standing equations, marks
--   State C          a session is closed, or open with an account
--   Use C, Call C    the five calls of an open session; those and open
--   AnswerOf C       what a call gives, a reply or a refusal: see src/answer.rt
--   Unopened m n q   why a session over the memory m is not opened with n variables
--   Solution k a θ   θ is a substitution over the account's variables that meets its standing equations
--   Holds k a e w    which of the solutions meet e: all, none, or some and not all
--   Step k m s c r t in the state s the call c gives the answer r, and leaves the state t: one rule for each outcome
--   FormPosted       what posting an equation gives once its input is sound
--   Run k m s l t    the calls of the list l, one after another, give their answers and lead from s to t
use Rattle.std.specs.Prelude.{◌≡◌, ℕ, ◌<◌, ◌≤◌, min, List, [], ◌∷◌, ◌++◌, length, take, Ok, Err, Result}
use Rattle.kinds.specs.Kinds.{Operations}
use Rattle.refusals.specs.declared.Refusal.{Refusal}
use Rattle.refusals.specs.declared.Refusal.TheVariants.{BadSize, FewSlots, Closed, LedgerFull, Contradiction, MarksFull, NoMark, NothingToShow}
use Rattle.terms.specs.declared.normal.Normal.{Normal}
use Rattle.terms.specs.Limits.{InRange}
use Rattle.terms.specs.NormalForms.{SameNormal}
use Rattle.tables.specs.Tables.{Input, Sound, Unsound, term_at}
use Rattle.steps.specs.declared.verdict.Verdict.{Verdict}
use Rattle.steps.specs.declared.verdict.Verdict.TheVariants.{Forced, Never, Open}
use Rattle.solving.specs.Substitutions.{Substitution, Over}
use Rattle.solving.specs.Equations.{Equation, Meets, MeetsAll}
use Rattle.solving.specs.SolvedForms.{Solved}
use Rattle.session.specs.declared.answer.Receipt.{Receipt}
use Rattle.session.specs.declared.answer.Reply.{Reply}
use Rattle.session.specs.declared.answer.Reply.TheVariants.{Done, Posted, Told, Image}
use Rattle.heads.specs.Limits.{most_entries, most_marks}
use Rattle.heads.specs.Heads.{Memory}

pub record Account (C : Type 0) : Type 0 where
  pub size : ℕ
  pub usable : ℕ
  pub standing : List (Equation C)
  pub marks : List ℕ  -- the number of equations at each mark, the latest last

pub data State (C : Type 0) : Type 0 where
  closed : State C
  opened : Account C → State C

pub data Use (C : Type 0) : Type 0 where
  post : Input C → Use C
  query : Input C → Use C
  mark : Use C
  return_to_mark : Use C
  show : ℕ → Use C

pub data Call (C : Type 0) : Type 0 where
  open_with : ℕ → Call C
  use_of : Use C → Call C

abbrev pub AnswerOf : Type 0 → Type 0
AnswerOf C = Result (Reply C) Refusal

-- just opened with n variables: no equation and no mark
abbrev pub new : {C : Type 0} → Memory → ℕ → Account C
new m n = record { size = n; usable = min m.ledger most_entries; standing = []; marks = [] }

-- why a session is not opened
pub data Unopened (m : Memory) (n : ℕ) : Refusal → Type 0 where
  range : (InRange n → ⊥) → Unopened m n BadSize
  slots : InRange n → m.slots < n → Unopened m n FewSlots

abbrev pub with_standing : {C : Type 0} → Account C → List (Equation C) → Account C
with_standing a es = record { size = a.size; usable = a.usable; standing = es; marks = a.marks }

abbrev pub with_marks : {C : Type 0} → Account C → List ℕ → Account C
with_marks a ms = record { size = a.size; usable = a.usable; standing = a.standing; marks = ms }

-- the equation of an input: the terms of its two sides
abbrev pub equation : {C : Type 0} → Operations C → Input C → Equation C
equation k i = record { left = term_at k i.table i.left; right = term_at k i.table i.right }

-- a call with what it gave
pub record Event (C : Type 0) : Type 0 where
  pub call : Call C
  pub answer : AnswerOf C

module _ {C : Type 0} (k : Operations C) where
  abbrev pub Solution : Account C → Substitution C → Type 0
  Solution a θ = Over a.size θ × MeetsAll k θ a.standing

  abbrev pub Holds : Account C → Equation C → Verdict → Type 0
  Holds a e Forced = (θ : Substitution C) → Solution a θ → Meets k θ e
  Holds a e Never = (θ : Substitution C) → Solution a θ → Meets k θ e → ⊥
  Holds a e Open =
      ((θ : Substitution C) × Solution a θ × Meets k θ e)
      × ((θ : Substitution C) × Solution a θ × (Meets k θ e → ⊥))

  pub data Step (m : Memory) : State C → Call C → AnswerOf C → State C → Type 0 where
    -- open: the size, then the slots; an open session starts anew
    bad_size : {s : State C} {n : ℕ} → (InRange n → ⊥) → Step m s (open_with n) (Err BadSize) s
    few_slots : {s : State C} {n : ℕ} → InRange n → m.slots < n → Step m s (open_with n) (Err FewSlots) s
    open_anew : {s : State C} {n : ℕ} → InRange n → n ≤ m.slots → Step m s (open_with n) (Ok Done) (opened (new m n))
    -- a closed session refuses every other call
    still_closed : {u : Use C} → Step m closed (use_of u) (Err Closed) closed
    -- post: the checks of its input, then the ledger, then the equation
    post_unsound : {a : Account C} {i : Input C} {q : Refusal} → Unsound a.size i q → Step m (opened a) (use_of (post i)) (Err q) (opened a)
    post_full : {a : Account C} {i : Input C} → Sound a.size i → length a.standing ≡ a.usable
        → Step m (opened a) (use_of (post i)) (Err LedgerFull) (opened a)
    post_clash : {a : Account C} {i : Input C} → Sound a.size i → length a.standing < a.usable → Holds a (equation k i) Never
        → Step m (opened a) (use_of (post i)) (Err Contradiction) (opened a)
    post_taken : {a : Account C} {i : Input C} → Sound a.size i → length a.standing < a.usable
        → (θ : Substitution C) → Solution a θ → Meets k θ (equation k i)
        → Step m (opened a) (use_of (post i)) (Ok Posted) (opened (with_standing a (a.standing ++ (equation k i ∷ []))))
    -- query: the checks of its input alone; a full ledger does not matter
    query_unsound : {a : Account C} {i : Input C} {q : Refusal} → Unsound a.size i q → Step m (opened a) (use_of (query i)) (Err q) (opened a)
    query_told : {a : Account C} {i : Input C} {w : Verdict} → Sound a.size i → Holds a (equation k i) w
        → Step m (opened a) (use_of (query i)) (Ok (Told w)) (opened a)
    mark_full : {a : Account C} → length a.marks ≡ most_marks → Step m (opened a) (use_of mark) (Err MarksFull) (opened a)
    marked : {a : Account C} → length a.marks < most_marks
        → Step m (opened a) (use_of mark) (Ok Done) (opened (with_marks a (a.marks ++ (length a.standing ∷ []))))
    -- return: the latest mark goes, and the first equations stay, as many as stood at the mark
    no_mark : {a : Account C} → a.marks ≡ [] → Step m (opened a) (use_of return_to_mark) (Err NoMark) (opened a)
    returned : {a : Account C} (count : ℕ) (ms : List ℕ) → a.marks ≡ ms ++ (count ∷ [])
        → Step m (opened a) (use_of return_to_mark) (Ok Done) (opened (with_marks (with_standing a (take count a.standing)) ms))
    -- show: the image in the solved form of the standing equations, up to sameness
    no_variable : {a : Account C} {v : ℕ} → a.size ≤ v → Step m (opened a) (use_of (show v)) (Err NothingToShow) (opened a)
    shown : {a : Account C} {v : ℕ} {x : Normal C} → v < a.size → (σ : Substitution C) → Solved k a.size a.standing σ → SameNormal k x (σ v)
        → Step m (opened a) (use_of (show v)) (Ok (Image x)) (opened a)

  pub data Run (m : Memory) (s : State C) : List (Event C) → State C → Type 0 where
    start : Run m s [] s
    more : {l : List (Event C)} {e : Event C} {t u : State C} → Run m s l t → Step m t e.call e.answer u → Run m s (l ++ (e ∷ [])) u

  -- what posting an equation gives once its input is sound
  pub data FormPosted (a : Account C) (e : Equation C) : Result Receipt Refusal → Account C → Type 0 where
    form_full : length a.standing ≡ a.usable → FormPosted a e (Err LedgerFull) a
    form_clash : length a.standing < a.usable → Holds a e Never → FormPosted a e (Err Contradiction) a
    form_taken : {x : Receipt} → length a.standing < a.usable → (θ : Substitution C) → Solution a θ → Meets k θ e
        → FormPosted a e (Ok x) (with_standing a (a.standing ++ (e ∷ [])))
