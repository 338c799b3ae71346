-- Rows of normal forms as substitutions: the first n entries of a row are the images of the n variables. A ledger is a
-- list of normal forms that are all to be zero.
--   images k row                the substitution: the image of v is the entry at v
--   EqualImages n σ τ           they give every variable below n equal images
--   AllFree k n row             every variable below n is its own image
--   SolvedRow k n rs row        the row is the solved form of the ledger rs
--   Forces, Bars, LeavesOpen    of the solutions of rs, all clear a; none does; some do and some do not
--   Says k n rs a verdict       so the verdict has it
--   Remains k n row a j         what the judgement j tells is what remains of a after substitution: nothing, a constant
--                               other than zero, or variables, with the highest as pivot
--   judged_as j, taken_as t     the verdict of a judgement; of what a normal form did to a row
--   Resolves k n rs done row    if some substitution clears the ledger rs, the row is the solved form of its part done
--   Grown k n rs a row t        the row is the solved form of rs with a, unless a clashes
use Rattle.std.specs.Prelude.{◌≡◌, ℕ, ◌<◌, List, [], ◌∷◌, ◌++◌, slice_index_or}
use Rattle.kinds.specs.Kinds.{Operations}
use Rattle.terms.specs.declared.normal.Normal.{Normal}
use Rattle.terms.specs.Limits.{most_variables}
use Rattle.terms.specs.Sets.{empty, Highest}
use Rattle.terms.specs.NormalForms.{SameNormal, of_variable}
use Rattle.steps.specs.declared.Judgement.{Judgement}
use Rattle.steps.specs.declared.Judgement.TheVariants as judgement
use Rattle.steps.specs.declared.Taken.{Taken}
use Rattle.steps.specs.declared.Taken.TheVariants as taken
use Rattle.steps.specs.declared.verdict.Verdict.{Verdict}
use Rattle.steps.specs.declared.verdict.Verdict.TheVariants as verdict
use Rattle.solving.specs.Substitutions.{Substitution, apply, Over}
use Rattle.solving.specs.Equations.{Every, Clears}
use Rattle.solving.specs.SolvedForms.{Solves}

abbrev pub images : {C : Type 0} → Operations C → List (Normal C) → Substitution C
images k row v = slice_index_or row v (of_variable k v)

abbrev pub EqualImages : {C : Type 0} → ℕ → Substitution C → Substitution C → Type 0
EqualImages n σ τ = (v : ℕ) → v < n → σ v ≡ τ v

abbrev pub AllFree : {C : Type 0} → Operations C → ℕ → List (Normal C) → Type 0
AllFree k n row = EqualImages n (images k row) (of_variable k)

abbrev pub SolvedRow : {C : Type 0} → Operations C → ℕ → List (Normal C) → List (Normal C) → Type 0
SolvedRow k n rs row = Solves k n (λ θ. Every (Clears k n θ) rs) (images k row)

abbrev pub Forces : {C : Type 0} → Operations C → ℕ → List (Normal C) → Normal C → Type 0
Forces {C} k n rs a = (θ : Substitution C) → Over n θ → Every (Clears k n θ) rs → Clears k n θ a

abbrev pub Bars : {C : Type 0} → Operations C → ℕ → List (Normal C) → Normal C → Type 0
Bars {C} k n rs a = (θ : Substitution C) → Over n θ → Every (Clears k n θ) rs → Clears k n θ a → ⊥

abbrev pub LeavesOpen : {C : Type 0} → Operations C → ℕ → List (Normal C) → Normal C → Type 0
LeavesOpen {C} k n rs a =
    ((θ : Substitution C) × Over n θ × Every (Clears k n θ) rs × Clears k n θ a)
    × ((θ : Substitution C) × Over n θ × Every (Clears k n θ) rs × (Clears k n θ a → ⊥))

abbrev pub Says : {C : Type 0} → Operations C → ℕ → List (Normal C) → Normal C → Verdict → Type 0
Says k n rs a verdict.Forced = Forces k n rs a
Says k n rs a verdict.Never = Bars k n rs a
Says k n rs a verdict.Open = LeavesOpen k n rs a

abbrev pub Remains : {C : Type 0} → Operations C → ℕ → List (Normal C) → Normal C → Judgement C → Type 0
Remains k n row a judgement.Forced = Clears k n (images k row) a
Remains k n row a judgement.Never = ((apply k n (images k row) a).vars ≡ empty) × (Clears k n (images k row) a → ⊥)
Remains k n row a (judgement.Open p r) = SameNormal k r (apply k n (images k row) a) × Highest r.vars p × (p < most_variables)

abbrev pub judged_as : {C : Type 0} → Judgement C → Verdict
judged_as judgement.Forced = verdict.Forced
judged_as judgement.Never = verdict.Never
judged_as (judgement.Open p r) = verdict.Open

abbrev pub taken_as : Taken → Verdict
taken_as taken.Follows = verdict.Forced
taken_as taken.Clashes = verdict.Never
taken_as (taken.Binds p s) = verdict.Open

abbrev pub Grown : {C : Type 0} → Operations C → ℕ → List (Normal C) → Normal C → List (Normal C) → Taken → Type 0
Grown k n rs a row taken.Follows = SolvedRow k n (rs ++ (a ∷ [])) row
Grown k n rs a row taken.Clashes = Unit {0}
Grown k n rs a row (taken.Binds p s) = SolvedRow k n (rs ++ (a ∷ [])) row

abbrev pub Resolves : {C : Type 0} → Operations C → ℕ → List (Normal C) → List (Normal C) → List (Normal C) → Type 0
Resolves {C} k n rs done row = (θ : Substitution C) → Over n θ → Every (Clears k n θ) rs → SolvedRow k n done row
