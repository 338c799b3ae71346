-- The leftmost fault is where the automaton stops.
use Rattle.std.proofs.Common.{◌≡◌, ℕ, List, [], ◌∷◌, ◌++◌, Ok, Err, Result, sym, refl, ap, ◌∙◌, subst, append_assoc}
use Rattle.grammar.specs.Grammar.{Symbol, IsEquation, Begins}
use Rattle.grammar.specs.Automaton.{State, start, step, run, then}
use Rattle.grammar.specs.Faults.{Why, grammar, depth, AtFault, Faultless, Leftmost}
use Rattle.grammar.proofs.Stopping.{runs, stops}

record Stop (s : State) (ts : List Symbol) (c : Why) : Type 0 where
  before : List Symbol
  here : Symbol
  after : List Symbol
  state : State
  split : ts ≡ before ++ here ∷ after
  ran : run s before ≡ Ok state
  stops_here : step state here ≡ Err c

first_stop : (ts : List Symbol) (s : State) (c : Why) → run s ts ≡ Err c → Stop s ts c
first_stop [] s c e = cc
first_stop (t ∷ ts) s c e = go (step s t) refl e (λ m. first_stop ts m c)
  where
    go : (x : Result State Why) → step s t ≡ x → then x (λ m. run m ts) ≡ Err c → ((m : State) → run m ts ≡ Err c → Stop m ts c) → Stop s (t ∷ ts) c
    go (Ok m) k e f =
        let r = f m e in
        record { before = t ∷ r.before; here = r.here; after = r.after; state = r.state; split = ap (λ l. t ∷ l) r.split; ran = ap (λ x. then x (λ i. run i r.before)) k ∙ r.ran; stops_here = r.stops_here }
    go (Err b) k e f = record { before = []; here = t; after = ts; state = s; split = refl; ran = refl; stops_here = k ∙ e }

at_fault : (d : ℕ) (us : List Symbol) (n : State) (t : Symbol) (c : Why) → run (start d) us ≡ Ok n → step n t ≡ Err c → AtFault d c us t
at_fault d us n t grammar e h = ((d, (runs d us).0 (n, e)), (stops d us n t grammar e h).1.0 refl)
at_fault d us n t depth e h = (stops d us n t depth e h).0.0 refl

front : (d : ℕ) (us : List Symbol) (t : Symbol) (vs : List Symbol) → Begins d (us ++ t ∷ vs) → Begins d (us ++ t ∷ [])
front d us t vs b =
    let p = append_assoc us (t ∷ vs) b.0 ∙ sym (append_assoc us (t ∷ []) (vs ++ b.0)) in
    (vs ++ b.0, subst (λ l. IsEquation d l) p b.1)

not_at_fault : (d : ℕ) (us : List Symbol) (t : Symbol) (c : Why) → Begins d (us ++ t ∷ []) → AtFault d c us t → ⊥
not_at_fault d us t grammar b a = a.1 d b
not_at_fault d us t depth b a = a.0 b

pub leftmost : Leftmost
leftmost d ts =
    (λ f. go f (run (start d) ts) refl, λ b us t vs c p a. not_at_fault d us t c (front d us t vs (subst (λ l. Begins d l) p b)) a)
  where
    go : Faultless d ts → (x : Result State Why) → run (start d) ts ≡ x → Begins d ts
    go f (Ok n) e = (runs d ts).0 (n, e)
    go f (Err c) e = let r = first_stop ts (start d) c e in absurd (f r.before r.here r.after c r.split (at_fault d r.before r.state r.here c r.ran r.stops_here))
