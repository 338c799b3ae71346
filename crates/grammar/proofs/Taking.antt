-- What the automaton takes is the grammar's.
use Rattle.std.proofs.Common.{◌≡◌, ℕ, zero, suc, Bool, true, false, List, [], ◌∷◌, ◌++◌, sym, refl, ◌∙◌, subst, append_assoc, append-nil}
use Rattle.std.specs.Result.{IsOkAnd}
use Rattle.grammar.specs.Grammar.{Symbol, variable, name, block, nought, xor, equals, opening, closing, Leaf, IsSum, IsPart, IsEquation, single, longer, item, nested, equation}
use Rattle.grammar.specs.Automaton.{State, state, start, step, whole}

-- from s, the tokens are taken and end whole
abbrev pub Takes : State → List Symbol → Type 0
Takes s [] = whole s ≡ true
Takes s (t ∷ ts) = IsOkAnd (step s t) (λ n. Takes n ts)

-- more parts of a sum
pub data Tail (d : ℕ) : List Symbol → Type 0 where
  end : Tail d []
  more : {us vs : List Symbol} → IsPart d us → Tail d vs → Tail d (xor ∷ (us ++ vs))

-- what may come after a part
pub data Follow : ℕ → ℕ → Bool → List Symbol → Type 0 where
  finish : {d : ℕ} {us : List Symbol} → Tail d us → Follow d zero true us
  turn : {d : ℕ} {us vs : List Symbol} → Tail d us → IsSum d vs → Follow d zero false (us ++ equals ∷ vs)
  shut : {d k : ℕ} {r : Bool} {us vs : List Symbol} → Tail d us → Follow (suc d) k r vs → Follow d (suc k) r (us ++ closing ∷ vs)

pub data Rest : ℕ → ℕ → Bool → Bool → List Symbol → Type 0 where
  want : {d k : ℕ} {r : Bool} {us vs : List Symbol} → IsPart d us → Follow d k r vs → Rest d k true r (us ++ vs)
  have : {d k : ℕ} {r : Bool} {us : List Symbol} → Follow d k r us → Rest d k false r us

pub extend : {d : ℕ} {ts us : List Symbol} → IsSum d ts → Tail d us → IsSum d (ts ++ us)
extend {ts = ts} s end = rw (append-nil ts) s
extend {ts = ts} s (more {us = us} {vs = vs} p t) = rw (append_assoc ts (xor ∷ us) vs) at (extend (longer s p) t)

-- from what the automaton takes to what the grammar gives, one token at a time
by_leaf : {d k : ℕ} {r : Bool} {us : List Symbol} (t : Symbol) → Leaf t → Rest d k false r us → Rest d k true r (t ∷ us)
by_leaf t l (have f) = want (item t l) f

by_xor : {d k : ℕ} {r : Bool} {us : List Symbol} → Rest d k true r us → Rest d k false r (xor ∷ us)
by_xor (want p f) = have (on p f)
  where
    on : {d k : ℕ} {r : Bool} {us vs : List Symbol} → IsPart d us → Follow d k r vs → Follow d k r (xor ∷ (us ++ vs))
    on p (finish t) = finish (more p t)
    on {us = us} p (turn {us = vs} {vs = ws} t s) = rw (append_assoc us vs (equals ∷ ws)) at (turn (more p t) s)
    on {us = us} p (shut {us = vs} {vs = ws} t f) = rw (append_assoc us vs (closing ∷ ws)) at (shut (more p t) f)

by_opening : {d k : ℕ} {r : Bool} {us : List Symbol} → Rest d (suc k) true r us → Rest (suc d) k true r (opening ∷ us)
by_opening (want p f) = on p f
  where
    on : {d k : ℕ} {r : Bool} {us vs : List Symbol} → IsPart d us → Follow d (suc k) r vs → Rest (suc d) k true r (opening ∷ (us ++ vs))
    on {us = us} p (shut {us = vs} {vs = ws} t f) =
        let e = append_assoc (us ++ vs) (closing ∷ []) ws ∙ append_assoc us vs (closing ∷ ws) in
        rw e at (want (nested (extend (single p) t)) f)

by_closing : {d k : ℕ} {r : Bool} {us : List Symbol} → Rest (suc d) k false r us → Rest d (suc k) false r (closing ∷ us)
by_closing (have f) = have (shut end f)

by_equals : {d : ℕ} {us : List Symbol} → Rest d zero true true us → Rest d zero false false (equals ∷ us)
by_equals (want p f) = on p f
  where
    on : {d : ℕ} {us vs : List Symbol} → IsPart d us → Follow d zero true vs → Rest d zero false false (equals ∷ (us ++ vs))
    on p (finish t) = have (turn end (extend (single p) t))

pub rest : (us : List Symbol) (d k : ℕ) (w r : Bool) → Takes (state d k w r) us → Rest d k w r us
rest [] d k true r h = cc
rest [] d (suc k) false r h = cc
rest [] d zero false r h = rw h (have (finish end))
rest (variable w ∷ us) d k true r h = by_leaf (variable w) tt (rest us d k false r h)
rest (variable w ∷ us) d k false r h = absurd h
rest (name w ∷ us) d k true r h = by_leaf (name w) tt (rest us d k false r h)
rest (name w ∷ us) d k false r h = absurd h
rest (block w ∷ us) d k true r h = by_leaf (block w) tt (rest us d k false r h)
rest (block w ∷ us) d k false r h = absurd h
rest (nought ∷ us) d k true r h = by_leaf nought tt (rest us d k false r h)
rest (nought ∷ us) d k false r h = absurd h
rest (xor ∷ us) d k true r h = absurd h
rest (xor ∷ us) d k false r h = by_xor (rest us d k true r h)
rest (equals ∷ us) d k true r h = absurd h
rest (equals ∷ us) d (suc k) false r h = absurd h
rest (equals ∷ us) d zero false true h = absurd h
rest (equals ∷ us) d zero false false h = by_equals (rest us d zero true true h)
rest (opening ∷ us) zero k true r h = absurd h
rest (opening ∷ us) (suc d) k true r h = by_opening (rest us d (suc k) true r h)
rest (opening ∷ us) d k false r h = absurd h
rest (closing ∷ us) d k true r h = absurd h
rest (closing ∷ us) d zero false r h = absurd h
rest (closing ∷ us) d (suc k) false r h = by_closing (rest us (suc d) k false r h)

pub sound : {d : ℕ} {us : List Symbol} → Rest d zero true false us → IsEquation d us
sound (want p f) = on p f
  where
    on : {d : ℕ} {us vs : List Symbol} → IsPart d us → Follow d zero false vs → IsEquation d (us ++ vs)
    on {us = us} p (turn {us = vs} {vs = ws} t s) = rw (append_assoc us vs (equals ∷ ws)) at (equation (extend (single p) t) s)

-- and back
leaf_takes : (d k : ℕ) (r : Bool) (us : List Symbol) (t : Symbol) → Leaf t → Takes (state d k false r) us → Takes (state d k true r) (t ∷ us)
leaf_takes d k r us (variable w) l h = h
leaf_takes d k r us (name w) l h = h
leaf_takes d k r us (block w) l h = h
leaf_takes d k r us nought l h = h
leaf_takes d k r us xor l h = absurd l
leaf_takes d k r us equals l h = absurd l
leaf_takes d k r us opening l h = absurd l
leaf_takes d k r us closing l h = absurd l

mutual
  sum_takes : {d : ℕ} {ts : List Symbol} → IsSum d ts → (k : ℕ) (r : Bool) (us : List Symbol) → Takes (state d k false r) us → Takes (state d k true r) (ts ++ us)
  sum_takes (single p) k r us h = part_takes p k r us h
  sum_takes {d} (longer {ts = ts} {us = vs} s p) k r us h =
      subst (λ l. Takes (state d k true r) l) (sym (append_assoc ts (xor ∷ vs) us)) (sum_takes s k r (xor ∷ (vs ++ us)) (part_takes p k r us h))

  part_takes : {d : ℕ} {ts : List Symbol} → IsPart d ts → (k : ℕ) (r : Bool) (us : List Symbol) → Takes (state d k false r) us → Takes (state d k true r) (ts ++ us)
  part_takes {d} (item t l) k r us h = leaf_takes d k r us t l h
  part_takes (nested {d = d} {ts = ts} s) k r us h =
      subst (λ l. Takes (state d (suc k) true r) l) (sym (append_assoc ts (closing ∷ []) us)) (sum_takes s (suc k) r (closing ∷ us) h)

pub complete : {d : ℕ} {ts : List Symbol} → IsEquation d ts → Takes (start d) ts
complete (equation {d = d} {us = us} s u) =
    sum_takes s zero false (equals ∷ us) (subst (λ l. Takes (state d zero true true) l) (append-nil us) (sum_takes u zero true [] refl))
