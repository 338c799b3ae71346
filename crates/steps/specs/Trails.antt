-- Trails: taking bindings back, the latest first. A binding notes its variable, the ledger entry that made it and the
-- set of the variables whose images it changed.
--   unbinding k p s σ              the images before p was bound, which changed those of the variables in s: what was
--                                  joined into them is p with its image
--   unwound k ts j σ               the images before the bindings of ts, the latest first, that entries from j on made
--   remaining ts j                 those of the bindings ts that entries before j made
--   bound_count n σ                how many variables below n are bound: their images have them no more
--   Descending n m ts              the entries of ts are below m, later ones first, and their variables below n
--   Tracing k n ledger ts top m σ  taken back to any length j up to m, the images are the solved form of the ledger's
--                                  first j entries, with as many bindings left as variables bound; ts is below top
--   Traced k n ledger ts m σ       this with no binding of an entry from m on
--   Ended m ts                     the latest binding, if any, is of an entry before m
--   Undoable k n row row' t        how row' is taken back to row: it is row, unless a variable was bound; then
--                                  unbinding it gives the images of row, and one variable more is bound
use Rattle.std.specs.Prelude.{◌≡◌, ℕ, ◌+◌, ◌<◌, ◌≤◌, cond, not, List, [], ◌∷◌, length, take, nat_lt}
use Rattle.kinds.specs.Kinds.{Operations}
use Rattle.terms.specs.declared.normal.Normal.{Normal}
use Rattle.terms.specs.Sets.{VarSet, has}
use Rattle.terms.specs.Sums.{count}
use Rattle.terms.specs.NormalForms.{of_variable, joined}
use Rattle.steps.specs.declared.Binding.{Binding}
use Rattle.steps.specs.declared.Taken.{Taken}
use Rattle.steps.specs.declared.Taken.TheVariants.{Follows, Clashes, Binds}
use Rattle.solving.specs.Substitutions.{Substitution, SameSubstitution}
use Rattle.solving.specs.Equations.{Every, Clears}
use Rattle.solving.specs.SolvedForms.{Solves}
use Rattle.steps.specs.Rows.{images, SolvedRow}

abbrev pub unbinding : {C : Type 0} → Operations C → ℕ → VarSet → Substitution C → Substitution C
unbinding k p s σ v = cond (has s v) (joined k (σ v) (joined k (of_variable k p) (σ p))) (σ v)

abbrev pub unwound : {C : Type 0} → Operations C → List Binding → ℕ → Substitution C → Substitution C
unwound k [] j σ = σ
unwound k (t ∷ ts) j σ = cond (nat_lt t.entry j) σ (unwound k ts j (unbinding k t.variable t.changed σ))

abbrev pub remaining : List Binding → ℕ → List Binding
remaining [] j = []
remaining (t ∷ ts) j = cond (nat_lt t.entry j) (t ∷ ts) (remaining ts j)

abbrev pub bound_count : {C : Type 0} → ℕ → Substitution C → ℕ
bound_count n σ = count n (λ v. not (has (σ v).vars v))

abbrev pub Descending : ℕ → ℕ → List Binding → Type 0
Descending n m [] = Unit {0}
Descending n m (t ∷ ts) = (t.entry < m) × (t.variable < n) × Descending n t.entry ts

pub record Tracing {C : Type 0} (k : Operations C) (n : ℕ) (ledger : List (Normal C)) (ts : List Binding) (top m : ℕ) (σ : Substitution C) : Type 0 where
  pub below : Descending n top ts
  pub solves : (j : ℕ) → j ≤ m → Solves k n (λ θ. Every (Clears k n θ) (take j ledger)) (unwound k ts j σ)
  pub counts : (j : ℕ) → j ≤ m → length (remaining ts j) ≡ bound_count n (unwound k ts j σ)

abbrev pub Traced : {C : Type 0} → Operations C → ℕ → List (Normal C) → List Binding → ℕ → Substitution C → Type 0
Traced k n ledger ts m σ = Tracing k n ledger ts m m σ

abbrev pub Ended : ℕ → List Binding → Type 0
Ended m [] = Unit {0}
Ended m (t ∷ ts) = t.entry < m

abbrev pub Undoable : {C : Type 0} → Operations C → ℕ → List (Normal C) → List (Normal C) → Taken → Type 0
Undoable k n row row' Follows = row' ≡ row
Undoable k n row row' Clashes = row' ≡ row
Undoable {C} k n row row' (Binds p s) =
    (rs : List (Normal C)) → SolvedRow k n rs row
    → (p < n)
    × SameSubstitution k n (unbinding k p s (images k row')) (images k row)
    × (bound_count n (images k row') ≡ bound_count n (images k row) + 1)
    × (bound_count n (images k row') ≤ n)
