-- The solved form: one substitution through which exactly the solutions pass.
--   Free k σ v             σ leaves the variable v as it is; any other variable is bound
--   Solves k n Solution σ  σ is the solved form, over n variables, of the substitutions that are solutions
--   Solved k n es σ        σ is the solved form of the equations es
--   eliminated k p r a     a with p, if it has it, put out by joining r, which has p and is to be zero
--   binding k p r σ        σ once r binds p: p is put out of every image
use Rattle.std.specs.Prelude.{◌≡◌, ℕ, ◌<◌, true, cond, ◌↔◌, List}
use Rattle.kinds.specs.Kinds.{Operations}
use Rattle.terms.specs.declared.normal.Normal.{Normal}
use Rattle.terms.specs.Sets.{has}
use Rattle.terms.specs.NormalForms.{SameNormal, of_variable, joined}
use Rattle.solving.specs.Substitutions.{Substitution, followed, Over, SameSubstitution}
use Rattle.solving.specs.Equations.{Equation, MeetsAll}

abbrev pub Free : {C : Type 0} → Operations C → Substitution C → ℕ → Type 0
Free k σ v = SameNormal k (σ v) (of_variable k v)

pub record Solves {C : Type 0} (k : Operations C) (n : ℕ) (Solution : Substitution C → Type 0) (σ : Substitution C) : Type 0 where
  pub over : Over n σ
  pub meets : Solution σ
  -- the image of a bound variable has only free variables, with lower numbers
  pub reduced : (v : ℕ) → v < n → (Free k σ v → ⊥) → (u : ℕ) → has (σ v).vars u ≡ true → Free k σ u × (u < v)
  pub idempotent : SameSubstitution k n (followed k n σ σ) σ
  -- a substitution is a solution exactly when it equals σ followed by itself
  pub most_general : (θ : Substitution C) → Over n θ → Solution θ ↔ SameSubstitution k n θ (followed k n σ θ)

abbrev pub Solved : {C : Type 0} → Operations C → ℕ → List (Equation C) → Substitution C → Type 0
Solved k n es σ = Solves k n (λ θ. MeetsAll k θ es) σ

abbrev pub eliminated : {C : Type 0} → Operations C → ℕ → Normal C → Normal C → Normal C
eliminated k p r a = cond (has a.vars p) (joined k a r) a

abbrev pub binding : {C : Type 0} → Operations C → ℕ → Normal C → Substitution C → Substitution C
binding k p r σ v = eliminated k p r (σ v)
