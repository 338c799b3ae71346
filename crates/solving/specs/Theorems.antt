-- What is proved of solving, for every kind that keeps the laws.
--   remainder k n σ e    what is left of e once σ has been put in
--   Records k es rs      rs holds, for each equation of es, the normal form of its joined sides, up to sameness
-- and the theorems, each with what it says.
use Rattle.std.specs.Prelude.{◌≡◌, ℕ, ◌⊎◌, ◌↔◌, List, [], ◌∷◌, ◌++◌}
use Rattle.kinds.specs.Kinds.{Operations, SameConstant}
use Rattle.terms.specs.declared.normal.Normal.{Normal}
use Rattle.terms.specs.Sets.{empty, Highest}
use Rattle.terms.specs.NormalForms.{SameNormal, of_variable, zero_form}
use Rattle.solving.specs.Substitutions.{Substitution, apply, Over, SameSubstitution}
use Rattle.solving.specs.Equations.{Equation, WithinEquation, Meets, Every, MeetsAll, SameSolutions, joined_sides, Clears}
use Rattle.solving.specs.SolvedForms.{Solves, Solved, binding}

abbrev pub remainder : {C : Type 0} → Operations C → ℕ → Substitution C → Equation C → Normal C
remainder k n σ e = apply k n σ (joined_sides k e)

-- no equation: each variable is its own image
abbrev pub EmptySolved : {C : Type 0} → Operations C → Type 0
EmptySolved {C} k = (n : ℕ) → Solved k n [] (of_variable k)

-- nothing is left: every solution meets the equation, and the solved form stays
abbrev pub Follows : {C : Type 0} → Operations C → Type 0
Follows {C} k =
    (n : ℕ) (es : List (Equation C)) (σ : Substitution C) → Solved k n es σ → (e : Equation C) → WithinEquation n e
    → SameNormal k (remainder k n σ e) (zero_form k)
    → ((θ : Substitution C) → Over n θ → MeetsAll k θ es → Meets k θ e) × Solved k n (es ++ (e ∷ [])) σ

-- a constant other than zero is left: no solution meets the equation
abbrev pub Clashes : {C : Type 0} → Operations C → Type 0
Clashes {C} k =
    (n : ℕ) (es : List (Equation C)) (σ : Substitution C) → Solved k n es σ → (e : Equation C) → WithinEquation n e
    → (remainder k n σ e).vars ≡ empty → (SameConstant k (remainder k n σ e).constant k.zero → ⊥)
    → (θ : Substitution C) → Over n θ → MeetsAll k θ es → Meets k θ e → ⊥

-- variables are left: some solutions meet the equation and some do not, and it binds its highest variable
abbrev pub Binds : {C : Type 0} → Operations C → Type 0
Binds {C} k =
    (n : ℕ) (es : List (Equation C)) (σ : Substitution C) → Solved k n es σ → (e : Equation C) → WithinEquation n e
    → (p : ℕ) → Highest (remainder k n σ e).vars p
    → ((θ : Substitution C) × Over n θ × MeetsAll k θ es × Meets k θ e)
    × ((θ : Substitution C) × Over n θ × MeetsAll k θ es × (Meets k θ e → ⊥))
    × Solved k n (es ++ (e ∷ [])) (binding k p (remainder k n σ e) σ)

-- and always one of the three
abbrev pub OneOfThree : {C : Type 0} → Operations C → Type 0
OneOfThree {C} k =
    (n : ℕ) (σ : Substitution C) → Over n σ → (e : Equation C)
    → SameNormal k (remainder k n σ e) (zero_form k)
    ⊎ (((remainder k n σ e).vars ≡ empty) × (SameConstant k (remainder k n σ e).constant k.zero → ⊥))
    ⊎ ((p : ℕ) × Highest (remainder k n σ e).vars p)

-- equations have a solved form, or no solution at all
abbrev pub SolvedOrNone : {C : Type 0} → Operations C → Type 0
SolvedOrNone {C} k =
    (n : ℕ) (es : List (Equation C)) → Every (WithinEquation n) es
    → ((σ : Substitution C) × Solved k n es σ) ⊎ ((θ : Substitution C) → Over n θ → MeetsAll k θ es → ⊥)

-- the solved form is unique: equations have the same solutions exactly when their solved forms are the same
abbrev pub Canonical : {C : Type 0} → Operations C → Type 0
Canonical {C} k =
    (n : ℕ) (es es' : List (Equation C)) (σ σ' : Substitution C) → Solved k n es σ → Solved k n es' σ'
    → SameSubstitution k n σ σ' ↔ SameSolutions k n es es'

-- what is the same as a solved form is one
abbrev pub Respects : {C : Type 0} → Operations C → Type 0
Respects {C} k =
    (n : ℕ) (es : List (Equation C)) (σ τ : Substitution C) → SameSubstitution k n σ τ → Solved k n es σ → Solved k n es τ

abbrev pub Records : {C : Type 0} → Operations C → List (Equation C) → List (Normal C) → Type 0
Records k [] [] = Unit {0}
Records k [] (a ∷ rs) = ⊥
Records k (e ∷ es) [] = ⊥
Records k (e ∷ es) (a ∷ rs) = SameNormal k (joined_sides k e) a × Records k es rs

-- the solved form depends on the equations only through the normal forms of their joined sides
abbrev pub Recorded : {C : Type 0} → Operations C → Type 0
Recorded {C} k =
    (n : ℕ) (es : List (Equation C)) → Every (WithinEquation n) es → (rs : List (Normal C)) → Records k es rs → (σ : Substitution C)
    → Solved k n es σ ↔ Solves k n (λ θ. Every (Clears k n θ) rs) σ
