-- An automaton that reads tokens one at a time. It is only the middle of proofs about readers: what is promised of a
-- reader is said by the grammar, and Theorems ties the two.
--   state left opened wanting right
--     left     how many brackets may still be opened
--     opened   how many are open
--     wanting  a part has to come next
--     right    the equals sign has come
--   start d     the state before the first token, where brackets may nest d deep
--   step s t    the state after the token t, or why t may not come
--   run s ts    the state after the tokens ts, or why the first that may not come may not
--   whole s     an equation may end here
use Rattle.std.specs.Prelude.{ℕ, zero, suc, Bool, true, false, List, [], ◌∷◌, Ok, Err, Result}
use Rattle.grammar.specs.Grammar.{Symbol, variable, name, block, nought, xor, equals, opening, closing}
use Rattle.grammar.specs.Faults.{Why, grammar, depth}

pub data State : Type 0 where
  state : ℕ → ℕ → Bool → Bool → State

abbrev pub start : ℕ → State
start d = state d zero true false

abbrev pub at_part : State → Result State Why
at_part (state d k true r) = Ok (state d k false r)
at_part (state d k false r) = Err grammar

abbrev pub at_opening : State → Result State Why
at_opening (state zero k true r) = Err depth
at_opening (state (suc d) k true r) = Ok (state d (suc k) true r)
at_opening (state d k false r) = Err grammar

abbrev pub at_closing : State → Result State Why
at_closing (state d k true r) = Err grammar
at_closing (state d zero false r) = Err grammar
at_closing (state d (suc k) false r) = Ok (state (suc d) k false r)

abbrev pub at_xor : State → Result State Why
at_xor (state d k true r) = Err grammar
at_xor (state d k false r) = Ok (state d k true r)

abbrev pub at_equals : State → Result State Why
at_equals (state d k true r) = Err grammar
at_equals (state d (suc k) false r) = Err grammar
at_equals (state d zero false true) = Err grammar
at_equals (state d zero false false) = Ok (state d zero true true)

abbrev pub step : State → Symbol → Result State Why
step s (variable w) = at_part s
step s (name w) = at_part s
step s (block w) = at_part s
step s nought = at_part s
step s xor = at_xor s
step s equals = at_equals s
step s opening = at_opening s
step s closing = at_closing s

abbrev pub then : Result State Why → (State → Result State Why) → Result State Why
then (Ok n) f = f n
then (Err c) f = Err c

abbrev pub run : State → List Symbol → Result State Why
run s [] = Ok s
run s (t ∷ ts) = then (step s t) (λ n. run n ts)

abbrev pub whole : State → Bool
whole (state d k true r) = false
whole (state d (suc k) false r) = false
whole (state d zero false r) = r
