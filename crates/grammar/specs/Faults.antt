-- Which token of a list is at fault, and why.
--   Why               by grammar: no equation goes on so; by depth: only one with deeper brackets does
--   AtFault d c ts t  the token t after ts is at fault by c, where brackets nest at most d deep: by grammar, an equation
--                     begins with ts and none with ts and t; by depth, one begins with ts and t, and none within d
--   Faultless d ts    no token of ts is at fault
--   Leftmost          an equation within d begins with ts exactly when no token of ts is at fault. So 'an equation within
--                     the bound begins with the tokens before' says that none further left is at fault
use Rattle.std.specs.Prelude.{◌≡◌, ℕ, ◌↔◌, List, [], ◌∷◌, ◌++◌}
use Rattle.grammar.specs.Grammar.{Symbol, Begins, Never, OnlyDeeper}

pub data Why : Type 0 where
  grammar : Why
  depth : Why

abbrev pub AtFault : ℕ → Why → List Symbol → Symbol → Type 0
AtFault d grammar ts t = ((e : ℕ) × Begins e ts) × Never (ts ++ t ∷ [])
AtFault d depth ts t = OnlyDeeper d (ts ++ t ∷ [])

abbrev pub Faultless : ℕ → List Symbol → Type 0
Faultless d ts = (us : List Symbol) (t : Symbol) (vs : List Symbol) (c : Why) → ts ≡ us ++ t ∷ vs → AtFault d c us t → ⊥

abbrev pub Leftmost : Type 0
Leftmost = (d : ℕ) (ts : List Symbol) → Faultless d ts ↔ Begins d ts
