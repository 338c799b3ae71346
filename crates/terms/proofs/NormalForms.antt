-- Normal forms keep the laws of exclusive or, and decide the equivalence of terms.
use Rattle.std.proofs.Common.{ℕ, suc, ◌+◌, ◌≤◌, sym, refl, ◌∙◌, ap₂, arith}
use Rattle.kinds.specs.Kinds.{Operations, Laws, Lawful}
use Rattle.kinds.proofs.Laws.{unit_right, interchange}
use Rattle.terms.specs.declared.normal.Normal.{Normal}
use Rattle.terms.specs.Sets.{has, empty, symmetric_difference}
use Rattle.terms.specs.Sums.{gather}
use Rattle.terms.specs.Terms.{Term, const, var, join, Equiv, reflexive, symmetric, transitive, congruent, associative, commutative, unital, self_inverse, same_constants, joined_constants, Within}
use Rattle.terms.specs.NormalForms.{SameNormal, of_constant, of_variable, zero_form, joined, value, normal, NormalFormsDecide}
use Rattle.terms.proofs.SetFacts.{has_empty, has_singleton, singleton_other, has_difference, difference_assoc, difference_comm, difference_empty, difference_self}
use Rattle.terms.proofs.Sums.{gather_differs, gather_one, gather_none}

module _ {C : Type 0} {k : Operations C} (lawful : Lawful k) where
  pub normal_laws : Laws (SameNormal k) (zero_form k) (joined k)
  normal_laws = record {
    same_self = λ a. record { same_vars = refl; same_constant = lawful.same_self a.constant };
    same_sym = λ p. record { same_vars = sym p.same_vars; same_constant = lawful.same_sym p.same_constant };
    same_trans = λ p q. record { same_vars = p.same_vars ∙ q.same_vars; same_constant = lawful.same_trans p.same_constant q.same_constant };
    join_same = λ p q. record { same_vars = ap₂ symmetric_difference p.same_vars q.same_vars; same_constant = lawful.join_same p.same_constant q.same_constant };
    assoc = λ a b c. record { same_vars = difference_assoc _ _ _; same_constant = lawful.assoc _ _ _ };
    comm = λ a b. record { same_vars = difference_comm _ _; same_constant = lawful.comm _ _ };
    unit = λ a. record { same_vars = difference_empty _; same_constant = lawful.unit _ };
    self = λ a. record { same_vars = difference_self _; same_constant = lawful.self _ };
  }

  -- constants join as normal forms do
  pub constants_join : (a b : C) → SameNormal k (joined k (of_constant a) (of_constant b)) (of_constant (k.join a b))
  constants_join a b = record { same_vars = difference_empty empty; same_constant = lawful.same_self _ }

  -- equal terms have the same value under every substitution
  pub value_same : (θ : ℕ → Normal C) {s t : Term C} → Equiv k s t → SameNormal k (value k θ s) (value k θ t)
  value_same θ (reflexive t) = normal_laws.same_self (value k θ t)
  value_same θ (symmetric p) = normal_laws.same_sym (value_same θ p)
  value_same θ (transitive p q) = normal_laws.same_trans (value_same θ p) (value_same θ q)
  value_same θ (congruent p q) = normal_laws.join_same (value_same θ p) (value_same θ q)
  value_same θ (associative s t u) = normal_laws.assoc (value k θ s) (value k θ t) (value k θ u)
  value_same θ (commutative s t) = normal_laws.comm (value k θ s) (value k θ t)
  value_same θ (unital t) = normal_laws.unit (value k θ t)
  value_same θ (self_inverse t) = normal_laws.self (value k θ t)
  value_same θ (same_constants a b e) = record { same_vars = refl; same_constant = e }
  value_same θ (joined_constants a b) = constants_join a b

module _ {C : Type 0} (k : Operations C) where
  infixr 30 ◌▸◌
  term_laws : Laws (Equiv k) (const k.zero) join
  term_laws = record {
    same_self = reflexive;
    same_sym = λ p. symmetric p;
    same_trans = λ p q. transitive p q;
    join_same = λ p q. congruent p q;
    assoc = associative;
    comm = commutative;
    unit = unital;
    self = self_inverse;
  }

  ◌▸◌ : {s t u : Term C} → Equiv k s t → Equiv k t u → Equiv k s u
  p ▸ q = transitive p q

  -- a normal form as a term
  spread : ℕ → Normal C → Term C
  spread n a = join (const a.constant) (gather (const k.zero) join var n (has a.vars))

  spread_same : (n : ℕ) (a b : Normal C) → SameNormal k a b → Equiv k (spread n a) (spread n b)
  unfolding spread
  spread_same n a b e =
      congruent (same_constants _ _ e.same_constant)
      (rw e.same_vars (reflexive _))

  spread_joined : (n : ℕ) (a b : Normal C) → Equiv k (spread n (joined k a b)) (join (spread n a) (spread n b))
  unfolding spread
  spread_joined n a b =
      congruent (symmetric (joined_constants _ _)) (gather_differs term_laws var n (has a.vars) (has b.vars) _ (λ u l. has_difference a.vars b.vars u))
      ▸ interchange term_laws _ _ _ _

  spread_normal : (n : ℕ) (t : Term C) → Within n t → Equiv k t (spread n (normal k t))
  unfolding spread
  spread_normal n (const c) h = symmetric (congruent (reflexive _) (gather_none term_laws var n (has empty) (λ u l. has_empty u)) ▸ unit_right term_laws (const c))
  spread_normal n (var v) h = symmetric (unital _ ▸ gather_one term_laws var n v _ h (has_singleton v) (λ u l d. singleton_other v u (λ e. d (sym e))))
  spread_normal n (join s t) h =
      congruent (spread_normal n s h.0) (spread_normal n t h.1) ▸ symmetric (spread_joined n (normal k s) (normal k t))

  within_more : (m n : ℕ) (t : Term C) → m ≤ n → Within m t → Within n t
  within_more m n (const c) l h = tt
  within_more m n (var v) l h = omega arith
  within_more m n (join s t) l h = (within_more m n s l h.0, within_more m n t l h.1)

  bound : (t : Term C) → (n : ℕ) × Within n t
  bound (const c) = (0, tt)
  bound (var v) = (suc v, omega arith)
  bound (join s t) =
      let a = bound s in
      let b = bound t in
      (a.0 + b.0, (within_more a.0 (a.0 + b.0) s (omega arith) a.1, within_more b.0 (a.0 + b.0) t (omega arith) b.1))

  -- terms with the same normal form are equal
  equal_when_same : (s t : Term C) → SameNormal k (normal k s) (normal k t) → Equiv k s t
  equal_when_same s t e =
      let b = bound (join s t) in
      spread_normal b.0 s b.1.0 ▸ spread_same b.0 _ _ e ▸ symmetric (spread_normal b.0 t b.1.1)

pub normal_forms_decide : {C : Type 0} (k : Operations C) → Lawful k → NormalFormsDecide k
normal_forms_decide k lawful s t = (λ p. value_same lawful (of_variable k) p, equal_when_same k s t)
