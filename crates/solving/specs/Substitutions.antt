-- Substitutions over n variables.
--   Substitution C         a normal form for each variable; only those below n count
--   apply k n θ a          the normal form a after each of its variables v is replaced by θ v
--   followed k n σ τ       σ followed by τ: the variables of σ's normal forms are replaced by τ's
--   Inside n a             every variable of a is below n
--   Over n θ               θ gives each variable below n a normal form over these same variables
--   SameSubstitution k n   they give every variable below n the same normal form
use Rattle.std.specs.Prelude.{◌≡◌, ℕ, ◌<◌, true}
use Rattle.kinds.specs.Kinds.{Operations}
use Rattle.terms.specs.declared.normal.Normal.{Normal}
use Rattle.terms.specs.Sets.{has}
use Rattle.terms.specs.Sums.{gather}
use Rattle.terms.specs.NormalForms.{SameNormal, of_constant, zero_form, joined}

abbrev pub Substitution : Type 0 → Type 0
Substitution C = ℕ → Normal C

unfoldable pub apply : {C : Type 0} → Operations C → ℕ → Substitution C → Normal C → Normal C
apply k n θ a = joined k (of_constant a.constant) (gather (zero_form k) (joined k) θ n (has a.vars))

abbrev pub followed : {C : Type 0} → Operations C → ℕ → Substitution C → Substitution C → Substitution C
followed k n σ τ v = apply k n τ (σ v)

abbrev pub Inside : {C : Type 0} → ℕ → Normal C → Type 0
Inside n a = (v : ℕ) → has a.vars v ≡ true → v < n

abbrev pub Over : {C : Type 0} → ℕ → Substitution C → Type 0
Over n θ = (v : ℕ) → v < n → Inside n (θ v)

abbrev pub SameSubstitution : {C : Type 0} → Operations C → ℕ → Substitution C → Substitution C → Type 0
SameSubstitution k n σ τ = (v : ℕ) → v < n → SameNormal k (σ v) (τ v)
