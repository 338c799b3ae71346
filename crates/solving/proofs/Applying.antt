-- How a substitution acts on normal forms.
use Rattle.std.proofs.Common.{◌≡◌, ℕ, zero, suc, ◌<◌, ◌≤◌, Bool, true, false, cond, ◌↔◌, sym, refl, ◌∙◌, subst, ap₂, inl, inr, arith}
use Rattle.std.proofs.lemmas.Bool.{cases_eq, cases_lt, both_ways}
use Rattle.terms.specs.Sets.{differs}
use Rattle.terms.proofs.SetFacts.{differs_false}
use Rattle.kinds.proofs.Laws.{unit_right, interchange, cancel_right, same_when_unit, unit_when_same}
use Rattle.kinds.specs.Kinds.{Operations, Lawful, SameConstant}
use Rattle.terms.specs.declared.normal.Normal.{Normal}
use Rattle.terms.specs.Sets.{VarSet}
use Rattle.terms.specs.Sets.{has, empty, singleton, symmetric_difference}
use Rattle.terms.specs.Terms.{Term, const, var, join, Within}
use Rattle.terms.specs.Sums.{gather}
use Rattle.terms.specs.NormalForms.{SameNormal, of_constant, of_variable, zero_form, joined, value, normal}
use Rattle.terms.proofs.SetFacts.{has_empty, has_singleton, singleton_has, singleton_other, has_difference, difference_either, difference_empty, sets_equal, toggled_other}
use Rattle.terms.proofs.Sums.{gather_same, gather_differs, gather_one, gather_none, gather_keeps, gather_map, gather_picks}
use Rattle.terms.proofs.NormalForms.{normal_laws}
use Rattle.solving.specs.Substitutions.{Substitution, apply, followed, Inside, Over}
use Rattle.solving.specs.Equations.{Equation, WithinEquation, Meets, joined_sides, Clears}

unless_true : (b : Bool) → (b ≡ true → ⊥) → b ≡ false
unless_true true h = absurd (h refl)
unless_true false h = refl

picked : {C : Type 0} (k : Operations C) (m : ℕ) (b : Bool) → has (cond b (of_variable k m) (zero_form k)).vars m ≡ b
picked k m true = has_singleton m
picked k m false = has_empty m

picked_other : {C : Type 0} (k : Operations C) (m v : ℕ) → (m ≡ v → ⊥) → (b : Bool) → has (cond b (of_variable k m) (zero_form k)).vars v ≡ false
picked_other k m v d true = singleton_other m v d
picked_other k m v d false = has_empty v

module _ {C : Type 0} (k : Operations C) (lawful : Lawful k) (n : ℕ) where
  infixr 30 ◌▸◌
  open normal_laws lawful use {same_self, same_sym, same_trans as ◌▸◌, join_same}

  pub apply_same : (θ : Substitution C) (a b : Normal C) → SameNormal k a b → SameNormal k (apply k n θ a) (apply k n θ b)
  unfolding apply
  apply_same θ a b e =
      join_same (record { same_vars = refl; same_constant = e.same_constant }) (rw e.same_vars (same_self _))

  pub apply_joined : (θ : Substitution C) (a b : Normal C) → SameNormal k (apply k n θ (joined k a b)) (joined k (apply k n θ a) (apply k n θ b))
  unfolding apply
  apply_joined θ a b =
      join_same (record { same_vars = sym (difference_empty empty); same_constant = lawful.same_self _ }) (gather_differs (normal_laws lawful) θ n (has a.vars) (has b.vars) _ (λ u l. has_difference a.vars b.vars u))
      ▸ interchange (normal_laws lawful) _ _ _ _

  pub apply_constant : (θ : Substitution C) (c : C) → SameNormal k (apply k n θ (of_constant c)) (of_constant c)
  unfolding apply
  apply_constant θ c =
      join_same (same_self _) (gather_none (normal_laws lawful) θ n (has empty) (λ u l. has_empty u)) ▸ unit_right (normal_laws lawful) _

  pub apply_variable : (θ : Substitution C) (v : ℕ) → v < n → SameNormal k (apply k n θ (of_variable k v)) (θ v)
  unfolding apply
  apply_variable θ v h = join_same (same_self _) (gather_one (normal_laws lawful) θ n v _ h (has_singleton v) (λ u l d. singleton_other v u (λ q. d (sym q)))) ▸ (normal_laws lawful).unit _

  -- only what θ makes of the variables of a counts
  pub apply_agree : (θ τ : Substitution C) (a : Normal C) → ((u : ℕ) → u < n → has a.vars u ≡ true → SameNormal k (θ u) (τ u))
      → SameNormal k (apply k n θ a) (apply k n τ a)
  unfolding apply
  apply_agree θ τ a e = join_same (same_self _) (gather_same (normal_laws lawful) θ τ n (has a.vars) e)

  pub apply_apply : (σ τ : Substitution C) (a : Normal C) → SameNormal k (apply k n τ (apply k n σ a)) (apply k n (followed k n σ τ) a)
  unfolding apply
  apply_apply σ τ a =
      apply_joined τ _ _ ▸ join_same (apply_constant τ a.constant) (gather_map (normal_laws lawful) (apply k n τ) (apply_constant τ k.zero) (apply_joined τ) σ n (has a.vars))

  -- a variable of the result is a variable of what one of a's variables stands for
  gather_vars : (P : ℕ → Type 0) (θ : Substitution C) (m : ℕ) (s : VarSet)
      → ((u : ℕ) → u < m → has s u ≡ true → (v : ℕ) → has (θ u).vars v ≡ true → P v)
      → (v : ℕ) → has (gather (zero_form k) (joined k) θ m (has s)).vars v ≡ true → P v
  gather_vars P θ m s h =
      gather_keeps (normal_laws lawful) (λ b. (u : ℕ) → has b.vars u ≡ true → P u) (λ u l. absurd (both_ways _ (has_empty u) l))
      (λ a b p q u l. elim (difference_either _ _ u l) [ inl x ↦ p u x | inr x ↦ q u x ]) θ m (has s) h

  pub apply_vars : (P : ℕ → Type 0) (θ : Substitution C) (a : Normal C)
      → ((u : ℕ) → u < n → has a.vars u ≡ true → (v : ℕ) → has (θ u).vars v ≡ true → P v)
      → (v : ℕ) → has (apply k n θ a).vars v ≡ true → P v
  unfolding apply
  apply_vars P θ a h v m =
      elim (difference_either empty _ v m) [
        | inl l ↦ absurd (both_ways _ (has_empty v) l)
        | inr r ↦ gather_vars P θ n a.vars h v r
      ]

  pub apply_inside : (θ : Substitution C) → Over n θ → (a : Normal C) → Inside n (apply k n θ a)
  apply_inside θ o a = apply_vars (λ v. v < n) θ a (λ u l m. o u l)

  -- the variables themselves change nothing
  variables_vars : (m : ℕ) (s : VarSet) (v : ℕ) → has (gather (zero_form k) (joined k) (of_variable k) m (has s)).vars v ≡ true → v < m
  variables_vars m s = gather_vars (λ v. v < m) (of_variable k) m s (λ u l i v h. subst (λ x. x < m) (singleton_has u v h) l)

  variables_has : (m : ℕ) (s : VarSet) (v : ℕ) → v < m → has (gather (zero_form k) (joined k) (of_variable k) m (has s)).vars v ≡ has s v
  unfolding gather
  variables_has zero s v h = absurd (omega arith)
  variables_has (suc m) s v h =
      has_difference _ _ v ∙ elim (cases_eq m v) [
        | inl e ↦ rw (← e) (ap₂ differs (unless_true _ (λ t. omega (arith, variables_vars m s m t))) (picked k m (has s m)))
        | inr d ↦ ap₂ differs (variables_has m s v (omega arith)) (picked_other k m v d (has s m)) ∙ differs_false (has s v)
      ]

  variables_constant : (m : ℕ) (s : VarSet) → SameConstant k (gather (zero_form k) (joined k) (of_variable k) m (has s)).constant k.zero
  variables_constant m s =
      gather_keeps (normal_laws lawful) (λ b. SameConstant k b.constant k.zero) (lawful.same_self _)
      (λ a b p q. lawful.same_trans (lawful.join_same p q) (lawful.unit _)) (of_variable k) m (has s) (λ u l i. lawful.same_self _)

  pub apply_variables : (a : Normal C) → Inside n a → SameNormal k (apply k n (of_variable k) a) a
  unfolding apply
  apply_variables a h = record {
    same_vars = difference_empty _ ∙ sets_equal _ _ (λ v. elim (cases_lt v n) [
      | inl l ↦ variables_has n a.vars v l
      | inr l ↦ unless_true _ (λ t. omega (arith, variables_vars n a.vars v t)) ∙ sym (unless_true _ (λ t. omega (arith, h v t)))
    ]);
    same_constant = lawful.same_trans (lawful.join_same (lawful.same_self _) (variables_constant n a.vars)) (unit_right lawful _);
  }

  -- as a loop goes over the variables of a normal form: sum has those images that were joined in, rest the variables
  -- whose images are still to come
  abbrev pub with_images : Substitution C → Normal C → VarSet → Normal C
  with_images θ sum rest = joined k sum (gather (zero_form k) (joined k) θ n (has rest))

  pub image_in : (θ : Substitution C) (sum : Normal C) (rest : VarSet) (v : ℕ) → v < n
      → SameNormal k (with_images θ (joined k sum (θ v)) (symmetric_difference rest (singleton v))) (with_images θ sum rest)
  image_in θ sum rest v l =
      let normals = normal_laws lawful in
      let one = gather_one normals θ n v (has (singleton v)) l (has_singleton v) (λ u b d. singleton_other v u (λ q. d (sym q))) in
      let without = gather_differs normals θ n (has rest) (has (singleton v)) _ (λ u b. has_difference rest (singleton v) u) ▸ join_same (same_self _) one in
      normals.assoc sum (θ v) _ ▸ join_same (same_self sum) (normals.comm (θ v) _ ▸ join_same without (same_self (θ v)) ▸ cancel_right normals _ (θ v))

  -- variables from n upward count for nothing
  pub image_beyond : (θ : Substitution C) (sum : Normal C) (rest : VarSet) (v : ℕ) → n ≤ v
      → SameNormal k (with_images θ sum (symmetric_difference rest (singleton v))) (with_images θ sum rest)
  image_beyond θ sum rest v l =
      rw (gather_picks (zero_form k) (joined k) θ n _ (has rest) (λ u b. toggled_other rest v u (λ e. omega arith))) (same_self _)

  -- when no image is to come, the sum is the result
  pub apply_from : (θ : Substitution C) (a sum : Normal C) → SameNormal k (with_images θ sum empty) (with_images θ (of_constant a.constant) a.vars)
      → SameNormal k sum (apply k n θ a)
  unfolding apply
  apply_from θ a sum h =
      let normals = normal_laws lawful in
      same_sym (join_same (same_self sum) (gather_none normals θ n (has empty) (λ u l. has_empty u)) ▸ unit_right normals sum) ▸ h

  pub value_apply : (θ : Substitution C) (t : Term C) → Within n t → SameNormal k (value k θ t) (apply k n θ (normal k t))
  value_apply θ (const c) h = same_sym (apply_constant θ c)
  value_apply θ (var v) h = same_sym (apply_variable θ v h)
  value_apply θ (join s t) h =
      join_same (value_apply θ s h.0) (value_apply θ t h.1) ▸ same_sym (apply_joined θ (normal k s) (normal k t))

  pub meets_clears : (θ : Substitution C) (e : Equation C) → WithinEquation n e → Meets k θ e ↔ Clears k n θ (joined_sides k e)
  meets_clears θ e h =
      let normals = normal_laws lawful in
      let whole = value_apply θ (join e.left e.right) h in
      (λ m. same_sym whole ▸ unit_when_same normals _ _ m, λ c. same_when_unit normals _ _ (whole ▸ c))
