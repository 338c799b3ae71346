-- What ties a session's memory to the plain account.
--   slots_of, ledger_of   what the lent memory holds
--   memory_of s           how much of it there is
--   size_of s             how many variables it has, 0 where it is closed
--   standing_of s         how many equations stand, 0 where it is closed
--   usable_of s           how many ledger entries may be used, 0 where it is closed
--   Ready s               the session is open, and its head fits the lent memory
--   Kept, Keeps k s a     the session s keeps the state a
--   Answered k s c r t    of every state that s keeps: the call c gives r, and t keeps the state that it leaves
--   Opens k s n r t       what opening s with n variables gives, whatever s was before
--   Judges, Posts, Unwound   what the inner calls do
--   reply, ..             what the calls give, as answers
use Rattle.std.specs.Prelude.{◌≡◌, ℕ, ◌≤◌, List, length, take, Ok, Err, Result, Some}
use Rattle.std.specs.Option.{option_map_or}
use Rattle.std.specs.Result.{result_map_both}
use Rattle.kinds.specs.Kinds.{Operations}
use Rattle.refusals.specs.declared.Refusal.{Refusal}
use Rattle.terms.specs.declared.normal.Normal.{Normal}
use Rattle.terms.specs.Limits.{InRange}
use Rattle.terms.specs.NormalForms.{SameNormal}
use Rattle.steps.specs.declared.verdict.Verdict.{Verdict}
use Rattle.solving.specs.Equations.{Equation, Every, WithinEquation, joined_sides}
use Rattle.solving.specs.SolvedForms.{Solved}
use Rattle.solving.specs.Theorems.{Records}
use Rattle.steps.specs.Rows.{images}
use Rattle.steps.specs.Trails.{Tracing, Traced}
use Rattle.session.specs.declared.answer.Receipt.{Receipt}
use Rattle.session.specs.declared.answer.Reply.TheVariants.{Done, Posted, Told, Image}
use Rattle.heads.specs.declared.head.Head.{Head}
use Rattle.heads.specs.declared.trail.Trail.{Trail}
use Rattle.session.specs.declared.Session.{Session}
use Rattle.heads.specs.Heads.{Memory, Fit, marks_of, latest_first}
use Rattle.session.specs.Accounts.{Account, State, closed, opened, Call, AnswerOf, new, Unopened, Holds, Step, FormPosted}

abbrev pub slots_of : {C : Type 0} → Session C → List (Normal C)
slots_of s = s.slots.now

abbrev pub ledger_of : {C : Type 0} → Session C → List (Normal C)
ledger_of s = s.ledger.now

abbrev pub memory_of : {C : Type 0} → Session C → Memory
memory_of s = record { slots = length (slots_of s); ledger = length (ledger_of s) }

abbrev pub size_of : {C : Type 0} → Session C → ℕ
size_of s = option_map_or (λ h. h.size) s.head 0

abbrev pub standing_of : {C : Type 0} → Session C → ℕ
standing_of s = option_map_or (λ h. h.standing) s.head 0

abbrev pub usable_of : {C : Type 0} → Session C → ℕ
usable_of s = option_map_or (λ h. h.usable) s.head 0

abbrev pub Ready : {C : Type 0} → Session C → Type 0
Ready s = (h : Head) × (s.head ≡ Some h) × Fit h (memory_of s)

pub record Kept {C : Type 0} (k : Operations C) (h : Head) (t : Trail) (slots ledger : List (Normal C)) (a : Account C) : Type 0 where
  pub fit : Fit h (record { slots = length slots; ledger = length ledger })
  pub size : a.size ≡ h.size
  pub usable : a.usable ≡ h.usable
  pub count : length a.standing ≡ h.standing
  pub marks : marks_of h ≡ a.marks
  -- the variables of the equations are below the size
  pub within : Every (WithinEquation h.size) a.standing
  -- the ledger's first entries are the normal forms of the joined sides, up to sameness
  pub recorded : Records k a.standing (take h.standing ledger)
  -- the slots are the solved form of the equations
  pub solved : Solved k h.size a.standing (images k slots)
  -- taken back along the trail, they are the solved form of the first equations
  pub traced : Traced k h.size ledger (latest_first t) h.standing (images k slots)

abbrev pub Keeps : {C : Type 0} → Operations C → Session C → State C → Type 0
Keeps k s closed = Ready s → ⊥
Keeps k s (opened a) = (h : Head) × (s.head ≡ Some h) × Kept k h s.trail (slots_of s) (ledger_of s) a

abbrev pub Answered : {C : Type 0} → Operations C → Session C → Call C → AnswerOf C → Session C → Type 0
Answered {C} k s call answer t = (a : State C) → Keeps k s a → (b : State C) × Step k (memory_of s) a call answer b × Keeps k t b

-- what the calls on a normal form do, of every equation whose joined sides it is
abbrev pub Judges : {C : Type 0} → Operations C → Session C → Normal C → Verdict → Type 0
Judges {C} k s form w =
    (a : Account C) (e : Equation C) → Keeps k s (opened a) → WithinEquation a.size e → SameNormal k form (joined_sides k e) → Holds k a e w

abbrev pub Posts : {C : Type 0} → Operations C → Session C → Normal C → Result Receipt Refusal → Session C → Type 0
Posts {C} k s form r t =
    (a : Account C) (e : Equation C) → Keeps k s (opened a) → WithinEquation a.size e → SameNormal k form (joined_sides k e)
    → (b : Account C) × FormPosted k a e r b × Keeps k t (opened b)

-- the bindings of ledger entries from m on are taken back, of a session with n variables
abbrev pub Unwound : {C : Type 0} → Operations C → ℕ → Session C → ℕ → Session C → Type 0
Unwound k n s m t =
    (top : ℕ) → Tracing k n (ledger_of s) (latest_first s.trail) top m (images k (slots_of s))
    → Traced k n (ledger_of s) (latest_first t.trail) m (images k (slots_of t))

-- opening, whatever the session was before
abbrev pub Opens : {C : Type 0} → Operations C → Session C → ℕ → Result (Unit {0}) Refusal → Session C → Type 0
Opens k s n (Ok x) t = InRange n × (n ≤ (memory_of s).slots) × Keeps k t (opened (new (memory_of s) n))
Opens k s n (Err q) t = Unopened (memory_of s) n q

abbrev pub reply : {C : Type 0} → Result (Unit {0}) Refusal → AnswerOf C
reply r = result_map_both (λ x. Done) (λ q. q) r

abbrev pub posted_reply : {C : Type 0} → Result Receipt Refusal → AnswerOf C
posted_reply r = result_map_both (λ x. Posted) (λ q. q) r

abbrev pub told_reply : {C : Type 0} → Result Verdict Refusal → AnswerOf C
told_reply r = result_map_both Told (λ q. q) r

abbrev pub shown_reply : {C : Type 0} → Result (Unit {0}) Refusal → Normal C → AnswerOf C
shown_reply r record' = result_map_both (λ x. Image record') (λ q. q) r
