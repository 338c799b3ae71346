-- What the automaton says of the grammar, and how the bound on brackets enters.
--   Accepts   it runs over ts without fault and ends whole exactly when ts are an equation
--   Runs      it runs over ts without fault exactly when an equation begins with ts
--   Stops     where it stops on t, it stops by depth exactly when only a deeper equation goes on so, and by grammar
--             exactly when none does
--   Deeper    an equation is one within the next larger bound too
use Rattle.std.specs.Prelude.{◌≡◌, ℕ, suc, true, ◌↔◌, List, [], ◌∷◌, ◌++◌, Ok, Err}
use Rattle.grammar.specs.Grammar.{Symbol, IsEquation, Begins, Never, OnlyDeeper}
use Rattle.grammar.specs.Faults.{Why, grammar, depth}
use Rattle.grammar.specs.Automaton.{State, start, step, run, whole}

abbrev pub Accepts : Type 0
Accepts = (d : ℕ) (ts : List Symbol) → ((n : State) × (run (start d) ts ≡ Ok n) × (whole n ≡ true)) ↔ IsEquation d ts

abbrev pub Runs : Type 0
Runs = (d : ℕ) (ts : List Symbol) → ((n : State) × (run (start d) ts ≡ Ok n)) ↔ Begins d ts

abbrev pub Stops : Type 0
Stops = (d : ℕ) (ts : List Symbol) (n : State) (t : Symbol) (c : Why) → run (start d) ts ≡ Ok n → step n t ≡ Err c → ((c ≡ depth) ↔ OnlyDeeper d (ts ++ t ∷ [])) × ((c ≡ grammar) ↔ Never (ts ++ t ∷ []))

abbrev pub Deeper : Type 0
Deeper = (d : ℕ) (ts : List Symbol) → IsEquation d ts → IsEquation (suc d) ts
