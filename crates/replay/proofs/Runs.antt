-- Runs of requests on a session, one after another.
use Rattle.std.proofs.Common.{◌≡◌, ℕ, zero, suc, ◌+◌, ◌<◌, ◌≤◌, List, [], ◌∷◌, ◌++◌, length, get_or, take, drop, set, sym, refl, ap, ◌∙◌, subst, add-one, arith}
use Rattle.std.proofs.lemmas.List.{take_more, get_or-map}
use lib.Seq.{map-set, map-set_same}
use lib.ListN.{length-map}
use Rattle.kinds.specs.Kinds.{Operations, Lawful}
use Rattle.solving.specs.SolvedForms.{Solved}
use Rattle.steps.specs.Rows.{images}
use Rattle.solving.proofs.Solving.{canonical}
use Rattle.heads.specs.Heads.{Memory}
use Rattle.session.specs.declared.Session.{Session}
use Rattle.session.specs.Accounts.{Account, AnswerOf, State, closed, opened, new, Call, open_with, use_of, Event, Step, Run, start, more, bad_size, few_slots, open_anew, still_closed, post_unsound, post_full, post_clash, post_taken, query_unsound, query_told, mark_full, marked, no_mark, returned, no_variable, shown}
use Rattle.session.specs.Keeping.{Ready, Keeps, Answered, slots_of, ledger_of, memory_of, size_of, usable_of}
use Rattle.tables.specs.Tables.{Input, Sized}
use Rattle.tables.specs.Calls.{Worked}
use Rattle.session.specs.Frames.{SameMemory, PastInput}
use Rattle.session.proofs.Keeping.{kept_ready, kept_size, kept_usable, kept_solved, same_memory, showing}
use Rattle.replay.specs.declared.Ask.{Ask}
use Rattle.replay.specs.declared.Request.{Request}
use Rattle.replay.specs.Promise.{call_of, asks, answers, events, WorkedOne, WorkedAll, Promise, new_usable}

-- a use leaves an open session open, with its size and its usable length
abbrev Stays : {C : Type 0} → Call C → State C → State C → Type 0
Stays (open_with n) s t = Unit {0}
Stays (use_of u) closed t = Unit {0}
Stays {C} (use_of u) (opened a) t = (b : Account C) × (t ≡ opened b) × (b.size ≡ a.size) × (b.usable ≡ a.usable)

stays : {C : Type 0} (k : Operations C) (m : Memory) {s t : State C} {c : Call C} {r : AnswerOf C} → Step k m s c r t → Stays c s t
stays k m (bad_size b) = tt
stays k m (few_slots r l) = tt
stays k m (open_anew r l) = tt
stays k m still_closed = tt
stays k m (post_unsound {a} u) = (a, refl, refl, refl)
stays k m (post_full {a} s e) = (a, refl, refl, refl)
stays k m (post_clash {a} s l h) = (a, refl, refl, refl)
stays k m (post_taken s l θ t y) = (_, refl, refl, refl)
stays k m (query_unsound {a} u) = (a, refl, refl, refl)
stays k m (query_told {a} s h) = (a, refl, refl, refl)
stays k m (mark_full {a} e) = (a, refl, refl, refl)
stays k m (marked l) = (_, refl, refl, refl)
stays k m (no_mark {a} e) = (a, refl, refl, refl)
stays k m (returned c ms e) = (_, refl, refl, refl)
stays k m (no_variable {a} l) = (a, refl, refl, refl)
stays k m (shown {a} l σ s e) = (a, refl, refl, refl)

-- the working bytes of an open session go by the table alone
pub worked_open : {C : Type 0} (s : Session C) (i : Input C) (before after : List ℕ) → Ready s → Worked (PastInput s i) (length i.table) before after
    → Worked (Sized i.table × (length i.table ≤ i.room)) (length i.table) before after
worked_open s i before after ready w = (λ p. w.0 (ready, p.0, p.1), λ other. w.1 (λ p. other (p.1, p.2)))

module _ {C : Type 0} (room : ℕ) where
  abbrev event : Ask C → AnswerOf C → Event C
  event q y = record { call = call_of room q; answer = y }

  events_next : (qs : List (Ask C)) (ys : List (AnswerOf C)) (i : ℕ) (q : Ask C) (y : AnswerOf C) → i < length qs → i < length ys → q ≡ get_or qs i q
      → events room (take (suc i) qs) (set ys i y) ≡ events room (take i qs) ys ++ (event q y ∷ [])
  events_next [] ys i q y l m e = absurd (omega arith)
  events_next (p ∷ qs) [] i q y l m e = absurd (omega arith)
  events_next (p ∷ qs) (z ∷ ys) zero q y l m e = ap (λ x. event x y ∷ []) (sym e)
  events_next (p ∷ qs) (z ∷ ys) (suc i) q y l m e = ap (λ x. event p z ∷ x) (events_next qs ys i q y (omega arith) (omega arith) e)

worked_next : {C : Type 0} (qs : List (Ask C)) (q : Ask C) (u v w : List ℕ) → WorkedAll qs u v → WorkedOne q v w → WorkedAll (qs ++ (q ∷ [])) u w
worked_next [] q u v w e h = (w, subst (λ x. WorkedOne q x w) e h, refl)
worked_next (p ∷ qs) q u v w h g = (h.0, h.1, worked_next qs q h.0 v w h.2 g)

worked_more : {C : Type 0} (qs : List (Ask C)) (i : ℕ) (q : Ask C) (u v w : List ℕ) → i < length qs → q ≡ get_or qs i q
    → WorkedAll (take i qs) u v → WorkedOne q v w → WorkedAll (take (i + 1) qs) u w
worked_more qs i q u v w l e h g =
    let one : take (i + 1) qs ≡ take i qs ++ (q ∷ []) = take_more qs i q l ∙ ap (λ x. take i qs ++ (x ∷ [])) (sym e) in
    rw one (worked_next (take i qs) q u v w h g)

-- the first i requests are performed, on a session that was s₀ and work₀ when it had just been opened
pub record Replaying {C : Type 0} (k : Operations C) (n room : ℕ) (qs : List (Ask C)) (s₀ : Session C) (work₀ : List ℕ) (i : ℕ) (s : Session C) (ys : List (AnswerOf C)) (work : List ℕ) : Type 0 where
  pub account : Account C
  pub run : Run k (memory_of s₀) (opened (new (memory_of s₀) n)) (events room (take i qs) ys) (opened account)
  pub keeps : Keeps k s (opened account)
  pub size : account.size ≡ n
  pub usable : account.usable ≡ new_usable s₀
  pub worked : WorkedAll (take i qs) work₀ work
  pub slots : drop n (slots_of s) ≡ drop n (slots_of s₀)
  pub ledger : drop (new_usable s₀) (ledger_of s) ≡ drop (new_usable s₀) (ledger_of s₀)
  pub memory : SameMemory s₀ s

pub memory_on : {C : Type 0} (s t u : Session C) → SameMemory s t → SameMemory t u → SameMemory s u
memory_on s t u p q = record { slots = q.slots ∙ p.slots; ledger = q.ledger ∙ p.ledger; lengths = q.lengths ∙ p.lengths }

module _ {C : Type 0} (k : Operations C) (n room : ℕ) (qs : List (Ask C)) (s₀ : Session C) (work₀ : List ℕ) where
  pub replaying_start : Keeps k s₀ (opened (new (memory_of s₀) n)) → (ys : List (AnswerOf C)) → Replaying k n room qs s₀ work₀ 0 s₀ ys work₀
  replaying_start kept ys = record {
    account = new (memory_of s₀) n;
    run = start;
    keeps = kept;
    size = refl;
    usable = refl;
    worked = refl;
    slots = refl;
    ledger = refl;
    memory = same_memory s₀;
  }

  -- one request more
  pub replaying_more : (i : ℕ) (s t : Session C) (ys ys' : List (AnswerOf C)) (work work' : List ℕ) (q : Ask C) (y : AnswerOf C)
      → Replaying k n room qs s₀ work₀ i s ys work → i < length qs → i < length ys → q ≡ get_or qs i q → length work ≡ room → ys' ≡ set ys i y
      → Answered k s (call_of (length work) q) y t → (Ready s → WorkedOne q work work')
      → drop (size_of s) (slots_of t) ≡ drop (size_of s) (slots_of s)
      → drop (usable_of s) (ledger_of t) ≡ drop (usable_of s) (ledger_of s)
      → SameMemory s t → Replaying k n room qs s₀ work₀ (i + 1) t ys' work'
  replaying_more i s t ys ys' work work' q y inv l m e long written told worked slots ledger memory =
      let kept = inv.keeps in
      let next = told (opened inv.account) kept in
      let open_still = stays k (memory_of s) next.1 in
      let b = open_still.0 in
      let here : size_of s ≡ n = sym (kept_size k s inv.account kept) ∙ inv.size in
      let used : usable_of s ≡ new_usable s₀ = sym (kept_usable k s inv.account kept) ∙ inv.usable in
      let step : Step k (memory_of s₀) (opened inv.account) (call_of room q) y (opened b)
      = rw (← inv.memory.lengths, ← long, ← open_still.1) next.1 in
      record {
        account = b;
        run = rw (written, add-one, events_next room qs ys i q y l m e) (more {e = record { call = call_of room q; answer = y }} inv.run step);
        keeps = rw open_still.1 at next.2;
        size = open_still.2 ∙ inv.size;
        usable = open_still.3 ∙ inv.usable;
        worked = worked_more qs i q work₀ work work' l e inv.worked (worked (kept_ready k s inv.account kept));
        slots = (rw here at slots) ∙ inv.slots;
        ledger = (rw used at ledger) ∙ inv.ledger;
        memory = memory_on s₀ s t inv.memory memory;
      }

  -- one request more, whose answer is written into it
  pub replaying_on : (i : ℕ) (s t : Session C) (requests : List (Request C)) (r : Request C) (y : AnswerOf C) (work work' : List ℕ)
      → (asks requests ≡ qs) × Replaying k n room qs s₀ work₀ i s (answers requests) work → i < length requests → r ≡ get_or requests i r → length work ≡ room
      → Answered k s (call_of (length work) (get_or requests i r).ask) y t → (Ready s → WorkedOne (get_or requests i r).ask work work')
      → drop (size_of s) (slots_of t) ≡ drop (size_of s) (slots_of s)
      → drop (usable_of s) (ledger_of t) ≡ drop (usable_of s) (ledger_of s)
      → SameMemory s t
      → let written = set requests i (record { ask = (get_or requests i r).ask; answer = y }) in
      (asks written ≡ qs) × Replaying k n room qs s₀ work₀ (i + 1) t (answers written) work'
  replaying_on i s t requests r y work work' before l e long told worked slots ledger memory =
      let count : length (asks requests) ≡ length requests = length-map requests _ in
      let held : length (answers requests) ≡ length requests = length-map requests _ in
      let same : length (asks requests) ≡ length qs = ap length before.0 in
      let here : r.ask ≡ get_or qs i r.ask
      = ap (λ (q : Request C). q.ask) e ∙ sym (get_or-map (λ (q : Request C). q.ask) requests i r r.ask l) ∙ ap (λ z. get_or z i r.ask) before.0 in (
        map-set_same (λ (q : Request C). q.ask) requests i _ r refl ∙ before.0,
        replaying_more i s t (answers requests) _ work work' r.ask y before.1 (omega arith) (omega arith) here long (map-set (λ (q : Request C). q.answer) requests i _)
            (rw (← e) at told) (rw (← e) at worked) slots ledger memory,
      )

  module _ (lawful : Lawful k) where
    -- all are performed: the whole promise
    pub replayed : (i : ℕ) (s : Session C) (ys : List (AnswerOf C)) (work : List ℕ) → take i qs ≡ qs → Replaying k n room qs s₀ work₀ i s ys work → Promise k n (events room qs ys) s
    replayed i s ys work all inv =
        let kept = inv.keeps in
        let here : size_of s ≡ n = sym (kept_size k s inv.account kept) ∙ inv.size in
        let solved : Solved k n inv.account.standing (images k (slots_of s)) = rw here at (kept_solved k s inv.account kept) in
        record {
          account = inv.account;
          run = subst (λ z. Run k z (opened (new z n)) (events room qs ys) (opened inv.account)) (sym inv.memory.lengths) (rw all at inv.run);
          keeps = kept;
          size = inv.size;
          shows = λ v l. showing k lawful kept.2 v (let low : kept.0.size ≡ n = sym kept.2.size ∙ inv.size in omega arith);
          solved = solved;
          canonical = λ t other keeps same.
              let there : size_of t ≡ n = sym (kept_size k t other keeps) ∙ same in
              canonical k lawful n _ _ (images k (slots_of s)) (images k (slots_of t)) solved (rw there at (kept_solved k t other keeps));
        }
