-- Putting a variable p out of normal forms, by joining a normal form r that has p.
use Rattle.std.proofs.Common.{◌≡◌, ℕ, Bool, true, false, cond, ◌⊎◌, refl, ap, ◌∙◌, ap₂, inl, inr, true≢false}
use mathlib.Core.Bool.{false≢true}
use Rattle.terms.specs.Sets.{differs}
use Rattle.kinds.proofs.Laws.{unit_right, interchange}
use Rattle.kinds.specs.Kinds.{Operations, Laws, Lawful}
use Rattle.terms.specs.declared.normal.Normal.{Normal}
use Rattle.terms.specs.Sets.{has}
use Rattle.terms.specs.NormalForms.{SameNormal, of_constant, zero_form, joined}
use Rattle.terms.proofs.SetFacts.{has_empty, has_difference, difference_either}
use Rattle.terms.proofs.Sums.{gather_map}
use Rattle.terms.proofs.NormalForms.{normal_laws}
use Rattle.solving.specs.Substitutions.{Substitution, apply}
use Rattle.solving.specs.SolvedForms.{eliminated, binding}

-- what is put in counts only up to sameness
pub eliminated_by_same : {C : Type 0} (k : Operations C) → Lawful k → (p : ℕ) (r s a : Normal C) → SameNormal k r s → SameNormal k (eliminated k p r a) (eliminated k p s a)
eliminated_by_same k lawful p r s a e = go (has a.vars p)
  where
    go : (c : Bool) → SameNormal k (cond c (joined k a r) a) (cond c (joined k a s) a)
    go true = (normal_laws lawful).join_same ((normal_laws lawful).same_self a) e
    go false = (normal_laws lawful).same_self a

module _ {C : Type 0} (k : Operations C) (lawful : Lawful k) (p : ℕ) (r : Normal C) (top : has r.vars p ≡ true) where
  infixr 30 ◌▸◌
  open normal_laws lawful use {same_self, same_sym, same_trans as ◌▸◌, join_same}

  pub eliminated_same : (a b : Normal C) → SameNormal k a b → SameNormal k (eliminated k p r a) (eliminated k p r b)
  eliminated_same a b e = go (has a.vars p) (has b.vars p) (ap (λ s. has s p) e.same_vars)
    where
      go : (c d : Bool) → c ≡ d → SameNormal k (cond c (joined k a r) a) (cond d (joined k b r) b)
      go true true q = join_same e (same_self r)
      go true false q = absurd (true≢false q)
      go false true q = absurd (false≢true q)
      go false false q = e

  pub eliminated_joined : (a b : Normal C) → SameNormal k (eliminated k p r (joined k a b)) (joined k (eliminated k p r a) (eliminated k p r b))
  eliminated_joined a b = rw (has_difference a.vars b.vars p) (go (has a.vars p) (has b.vars p))
    where
      normals : Laws (SameNormal k) (zero_form k) (joined k)
      normals = normal_laws lawful

      go : (c d : Bool) → SameNormal k (cond (differs c d) (joined k (joined k a b) r) (joined k a b)) (joined k (cond c (joined k a r) a) (cond d (joined k b r) b))
      go true true = same_sym (interchange normals a r b r ▸ join_same (same_self _) (normals.self r) ▸ unit_right normals _)
      go true false = normals.assoc a b r ▸ join_same (same_self a) (normals.comm b r) ▸ same_sym (normals.assoc a r b)
      go false true = normals.assoc a b r
      go false false = same_self _

  pub eliminated_keeps : (a : Normal C) → has a.vars p ≡ false → SameNormal k (eliminated k p r a) a
  eliminated_keeps a h = rw h (same_self a)

  pub eliminated_constant : (c : C) → SameNormal k (eliminated k p r (of_constant c)) (of_constant c)
  eliminated_constant c = eliminated_keeps (of_constant c) (has_empty p)

  -- p is gone
  pub eliminated_out : (a : Normal C) → has (eliminated k p r a).vars p ≡ false
  eliminated_out a = go (has a.vars p) refl
    where
      go : (c : Bool) → has a.vars p ≡ c → has (cond c (joined k a r) a).vars p ≡ false
      go true h = has_difference a.vars r.vars p ∙ ap₂ differs h top
      go false h = h

  pub eliminated_self : SameNormal k (eliminated k p r r) (zero_form k)
  eliminated_self = rw top ((normal_laws lawful).self r)

  pub eliminated_vars : (a : Normal C) (u : ℕ) → has (eliminated k p r a).vars u ≡ true
      → (has a.vars u ≡ true) ⊎ ((has a.vars p ≡ true) × (has r.vars u ≡ true))
  eliminated_vars a u = go (has a.vars p) refl
    where
      go : (c : Bool) → has a.vars p ≡ c → has (cond c (joined k a r) a).vars u ≡ true → (has a.vars u ≡ true) ⊎ ((has a.vars p ≡ true) × (has r.vars u ≡ true))
      go true h m = elim (difference_either _ _ u m) [ inl x ↦ inl x | inr x ↦ inr (h, x) ]
      go false h m = inl m

  pub apply_eliminated : (n : ℕ) (σ : Substitution C) (a : Normal C) → SameNormal k (apply k n (binding k p r σ) a) (eliminated k p r (apply k n σ a))
  unfolding apply
  apply_eliminated n σ a =
      same_sym (eliminated_joined _ _ ▸ join_same (eliminated_constant _) (gather_map (normal_laws lawful) (eliminated k p r) (eliminated_constant k.zero) eliminated_joined σ n (has a.vars)))
