-- The whole promise about a list of requests on a session just opened.
--   asked room q, call_of room q   what is asked, as a use and as a call of the account, with so many working bytes
--   asks qs, answers qs   what requests ask, and the answers that they hold
--   events room qs ys   the calls with the answers that were given
--   WorkedTable, WorkedOne, WorkedAll   what requests make of the working bytes
--   Promise k n l s     a: the account, from new, answers every call of l as it was answered; b: the images that s shows are
--                       the solved form of the standing equations; c: they are canonical
--   new_usable s        how many ledger entries may be used once it is opened
use Rattle.std.specs.Prelude.{◌≡◌, ℕ, ◌<◌, ◌≤◌, min, ◌↔◌, List, [], ◌∷◌, map, length, Ok}
use Rattle.kinds.specs.Kinds.{Operations}
use Rattle.terms.specs.declared.nodes.Node.{Node}
use Rattle.tables.specs.Tables.{Sized}
use Rattle.tables.specs.Calls.{input_of, Worked}
use Rattle.solving.specs.Substitutions.{SameSubstitution}
use Rattle.solving.specs.Equations.{SameSolutions}
use Rattle.solving.specs.SolvedForms.{Solved}
use Rattle.steps.specs.Rows.{images}
use Rattle.session.specs.declared.answer.Reply.TheVariants.{Image}
use Rattle.session.specs.declared.Session.{Session}
use Rattle.session.specs.Accounts.{Account, AnswerOf, opened, new, Use, Call, use_of, post, query, mark, return_to_mark, show, Event, Step, Run}
use Rattle.heads.specs.Limits.{most_entries}
use Rattle.session.specs.Keeping.{Keeps, slots_of, ledger_of, memory_of}
use Rattle.replay.specs.declared.Ask.{Ask}
use Rattle.replay.specs.declared.Ask.TheVariants.{Post, Query, Mark, ReturnToMark, Show}
use Rattle.replay.specs.declared.Request.{Request}

abbrev pub asked : {C : Type 0} → ℕ → Ask C → Use C
asked room (Post sides) = post (input_of sides room)
asked room (Query sides) = query (input_of sides room)
asked room Mark = mark
asked room ReturnToMark = return_to_mark
asked room (Show variable) = show variable

abbrev pub call_of : {C : Type 0} → ℕ → Ask C → Call C
call_of room q = use_of (asked room q)

abbrev pub asks : {C : Type 0} → List (Request C) → List (Ask C)
asks qs = map (λ q. q.ask) qs

abbrev pub answers : {C : Type 0} → List (Request C) → List (AnswerOf C)
answers qs = map (λ q. q.answer) qs

abbrev pub events : {C : Type 0} → ℕ → List (Ask C) → List (AnswerOf C) → List (Event C)
events room [] ys = []
events room (q ∷ qs) [] = []
events room (q ∷ qs) (y ∷ ys) = record { call = call_of room q; answer = y } ∷ events room qs ys

-- a table of fitting size has its bytes cleared, if there are enough
abbrev pub WorkedTable : {C : Type 0} → List (Node C) → List ℕ → List ℕ → Type 0
WorkedTable table before after = Worked (Sized table × (length table ≤ length before)) (length table) before after

abbrev pub WorkedOne : {C : Type 0} → Ask C → List ℕ → List ℕ → Type 0
WorkedOne (Post sides) before after = WorkedTable sides.table.now before after
WorkedOne (Query sides) before after = WorkedTable sides.table.now before after
WorkedOne Mark before after = after ≡ before
WorkedOne ReturnToMark before after = after ≡ before
WorkedOne (Show variable) before after = after ≡ before

abbrev pub WorkedAll : {C : Type 0} → List (Ask C) → List ℕ → List ℕ → Type 0
WorkedAll [] before after = after ≡ before
WorkedAll (q ∷ qs) before after = (between : List ℕ) × WorkedOne q before between × WorkedAll qs between after

pub record Promise {C : Type 0} (k : Operations C) (n : ℕ) (l : List (Event C)) (s : Session C) : Type 0 where
  pub account : Account C
  -- a. every call was answered as the plain account answers it
  pub run : Run k (memory_of s) (opened (new (memory_of s) n)) l (opened account)
  pub keeps : Keeps k s (opened account)
  pub size : account.size ≡ n
  -- b. what is shown of each variable, and that it is the solved form of the standing equations
  pub shows : (v : ℕ) → v < n → Step k (memory_of s) (opened account) (use_of (show v)) (Ok (Image (images k (slots_of s) v))) (opened account)
  pub solved : Solved k n account.standing (images k (slots_of s))
  -- c. any other session of this size, whatever run led to the account that it keeps, shows the same images exactly when
  -- the same substitutions meet the standing equations of both
  pub canonical : (t : Session C) (other : Account C) → Keeps k t (opened other) → other.size ≡ n
      → SameSubstitution k n (images k (slots_of s)) (images k (slots_of t)) ↔ SameSolutions k n account.standing other.standing

-- the usable length of a session's ledger, once it is opened
abbrev pub new_usable : {C : Type 0} → Session C → ℕ
new_usable s = min (length (ledger_of s)) most_entries
