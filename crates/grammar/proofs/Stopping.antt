-- The automaton runs on exactly while an equation can come.
use Rattle.std.proofs.Common.{◌≡◌, ℕ, zero, suc, ◌+◌, Bool, true, false, List, [], ◌∷◌, ◌++◌, Ok, Err, Result, sym, refl, ap, ◌∙◌, subst, append-nil, add-zero, add-suc, add_comm}
use Rattle.std.specs.Result.{IsOkAnd}
use Rattle.grammar.specs.Grammar.{Symbol, variable, name, block, nought, xor, equals, opening, closing, Begins, Never}
use Rattle.grammar.specs.Faults.{Why, grammar, depth}
use Rattle.grammar.specs.Automaton.{State, state, start, step, run, whole, then, at_part}
use Rattle.grammar.specs.Theorems.{Accepts, Runs, Stops, Deeper}
use Rattle.grammar.proofs.Taking.{Takes, rest, sound, complete}

pub run_split : (ts us : List Symbol) (s : State) → Takes s (ts ++ us) → (n : State) × (run s ts ≡ Ok n) × Takes n us
run_split [] us s h = (s, refl, h)
run_split (t ∷ ts) us s h = go (step s t) (λ m. run_split ts us m) h
  where
    go : (x : Result State Why) → ((m : State) → Takes m (ts ++ us) → (n : State) × (run m ts ≡ Ok n) × Takes n us) → IsOkAnd x (λ n. Takes n (ts ++ us)) → (n : State) × (then x (λ m. run m ts) ≡ Ok n) × Takes n us
    go (Ok m) f h = f m h
    go (Err c) f h = absurd h

pub run_join : (ts us : List Symbol) (s n : State) → run s ts ≡ Ok n → Takes n us → Takes s (ts ++ us)
run_join [] us s n e h = subst (λ x. IsOkAnd x (λ m. Takes m us)) (sym e) h
run_join (t ∷ ts) us s n e h = go (step s t) (λ m e. run_join ts us m n e h) e
  where
    go : (x : Result State Why) → ((m : State) → run m ts ≡ Ok n → Takes m (ts ++ us)) → then x (λ m. run m ts) ≡ Ok n → IsOkAnd x (λ m. Takes m (ts ++ us))
    go (Ok m) f e = f m e
    go (Err c) f e = cc

pub run_more : (ts us : List Symbol) (s n : State) → run s ts ≡ Ok n → run s (ts ++ us) ≡ run n us
run_more [] us s n e = ap (λ x. then x (λ m. run m us)) e
run_more (t ∷ ts) us s n e = go (step s t) (λ m. run_more ts us m n) e
  where
    go : (x : Result State Why) → ((m : State) → run m ts ≡ Ok n → run m (ts ++ us) ≡ run n us) → then x (λ m. run m ts) ≡ Ok n → then x (λ m. run m (ts ++ us)) ≡ run n us
    go (Ok m) f e = f m e
    go (Err c) f e = cc

-- every state has a completion
have_rest : (k d : ℕ) (r : Bool) → (us : List Symbol) × Takes (state d k false r) us
have_rest zero d true = ([], refl)
have_rest zero d false = (equals ∷ nought ∷ [], refl)
have_rest (suc k) d r = let h = have_rest k (suc d) r in (closing ∷ h.0, h.1)

some_rest : (s : State) → (us : List Symbol) × Takes s us
some_rest (state d k false r) = have_rest k d r
some_rest (state d k true r) = let h = have_rest k d r in (nought ∷ h.0, h.1)

pub accepts : Accepts
accepts d ts = (
  λ h. sound (rest ts d zero true false (subst (λ l. Takes (start d) l) (append-nil ts) (run_join ts [] (start d) h.0 h.1 h.2))),
  λ e. run_split ts [] (start d) (subst (λ l. Takes (start d) l) (sym (append-nil ts)) (complete e)),
)

pub runs : Runs
runs d ts = (
  λ h. let c = some_rest h.0 in (c.0, sound (rest (ts ++ c.0) d zero true false (run_join ts c.0 (start d) h.0 h.1 c.1))),
  λ b. let x = run_split ts b.0 (start d) (complete b.1) in (x.0, x.1),
)

-- one bracket more
abbrev lift : State → State
lift (state d k w r) = state (suc d) k w r

abbrev lift_all : Result State Why → Result State Why
lift_all (Ok n) = Ok (lift n)
lift_all (Err c) = Err c

abbrev Lifted : Result State Why → Result State Why → Type 0
Lifted (Ok n) y = y ≡ Ok (lift n)
Lifted (Err grammar) y = y ≡ Err grammar
Lifted (Err depth) y = (m : State) × (y ≡ Ok m)

part_lift : (s : State) → Lifted (at_part s) (at_part (lift s))
part_lift (state d k true r) = refl
part_lift (state d k false r) = refl

step_lift : (t : Symbol) (s : State) → Lifted (step s t) (step (lift s) t)
step_lift (variable w) s = part_lift s
step_lift (name w) s = part_lift s
step_lift (block w) s = part_lift s
step_lift nought s = part_lift s
step_lift xor (state d k true r) = refl
step_lift xor (state d k false r) = refl
step_lift equals (state d k true r) = refl
step_lift equals (state d (suc k) false r) = refl
step_lift equals (state d zero false true) = refl
step_lift equals (state d zero false false) = refl
step_lift opening (state zero k true r) = (_, refl)
step_lift opening (state (suc d) k true r) = refl
step_lift opening (state d k false r) = refl
step_lift closing (state d k true r) = refl
step_lift closing (state d zero false r) = refl
step_lift closing (state d (suc k) false r) = refl

run_lift : (ts : List Symbol) (s n : State) → run s ts ≡ Ok n → run (lift s) ts ≡ Ok (lift n)
run_lift [] s n e = ap lift_all e
run_lift (t ∷ ts) s n e = go (step s t) (step_lift t s) e (λ m. run_lift ts m n)
  where
    go : (x : Result State Why) → Lifted x (step (lift s) t) → then x (λ m. run m ts) ≡ Ok n → ((m : State) → run m ts ≡ Ok n → run (lift m) ts ≡ Ok (lift n)) → then (step (lift s) t) (λ m. run m ts) ≡ Ok (lift n)
    go (Ok m) l e f = ap (λ x. then x (λ m. run m ts)) l ∙ f m e
    go (Err c) l e f = cc

whole_lift : (s : State) → whole (lift s) ≡ whole s
whole_lift (state d k true r) = refl
whole_lift (state d (suc k) false r) = refl
whole_lift (state d zero false r) = refl

pub deeper : Deeper
deeper d ts e = let x = (accepts d ts).1 e in (accepts (suc d) ts).0 (lift x.0, run_lift ts (start d) x.0 x.1, whole_lift x.0 ∙ x.2)

begins_up : (j e : ℕ) (ts : List Symbol) → Begins e ts → Begins (e + j) ts
begins_up zero e ts b = rw add-zero b
begins_up (suc j) e ts b = let x = begins_up j e ts b in rw add-suc (x.0, deeper (e + j) (ts ++ x.0) x.1)

grammar_stays : (j d : ℕ) (ts : List Symbol) (n : State) (t : Symbol) → run (start d) ts ≡ Ok n → step n t ≡ Err grammar → (m : State) × (run (start (d + j)) ts ≡ Ok m) × (step m t ≡ Err grammar)
grammar_stays zero d ts n t e h = rw add-zero (n, e, h)
grammar_stays (suc j) d ts n t e h =
    let x = grammar_stays j d ts n t e h in
    rw add-suc (lift x.0, run_lift ts (start (d + j)) x.0 x.1, subst (λ y. Lifted y (step (lift x.0) t)) x.2 (step_lift t x.0))

pub no_begins : (d : ℕ) (ts : List Symbol) (n : State) (t : Symbol) (c : Why) → run (start d) ts ≡ Ok n → step n t ≡ Err c → Begins d (ts ++ t ∷ []) → ⊥
no_begins d ts n t c e h b =
    let x = (runs d (ts ++ t ∷ [])).1 b in
    let y = run_more ts (t ∷ []) (start d) n e ∙ ap (λ x. then x (λ m. Ok m)) h in
    cc (y, x.1)

pub never : (d : ℕ) (ts : List Symbol) (n : State) (t : Symbol) → run (start d) ts ≡ Ok n → step n t ≡ Err grammar → Never (ts ++ t ∷ [])
never d ts n t e h i b =
    let x = grammar_stays i d ts n t e h in
    no_begins (d + i) ts x.0 t grammar x.1 x.2 (subst (λ j. Begins j (ts ++ t ∷ [])) (add_comm i d) (begins_up d i (ts ++ t ∷ []) b))

pub deep : (d : ℕ) (ts : List Symbol) (n : State) (t : Symbol) → run (start d) ts ≡ Ok n → step n t ≡ Err depth → (e : ℕ) × Begins e (ts ++ t ∷ [])
deep d ts n t e h =
    let l : (m : State) × (step (lift n) t ≡ Ok m) = subst (λ y. Lifted y (step (lift n) t)) h (step_lift t n) in
    (suc d, (runs (suc d) (ts ++ t ∷ [])).0 (l.0, run_more ts (t ∷ []) (start (suc d)) (lift n) (run_lift ts (start d) n e) ∙ ap (λ x. then x (λ m. Ok m)) l.1))

pub stops : Stops
stops d ts n t depth e h =
    let p = deep d ts n t e h in
    ((λ _. (no_begins d ts n t depth e h, p), λ _. refl), (λ x. cc, λ v. absurd (v p.0 p.1)))
stops d ts n t grammar e h =
    let v = never d ts n t e h in
    ((λ x. cc, λ o. absurd (v o.1.0 o.1.1)), (λ _. v, λ _. refl))
