-- Normal forms: a set of variables and a constant.
--   SameNormal k a b       equal sets and, to the kind k, the same constant
--   of_constant c          the normal form of the constant c: no variable, and c
--   of_variable k v        that of the variable v: v alone, and zero
--   joined k a b           that of a join: the variables in exactly one of a and b, and both constants joined
--   zero_form k            that of the term 0
--   value k θ t            the normal form of t once each variable v stands for θ v
--   normal k t             the normal form of t: each variable stands for itself
--   NormalFormsDecide k    two terms are equivalent exactly when their normal forms are the same
use Rattle.std.specs.Prelude.{◌≡◌, ℕ, ◌↔◌}
use Rattle.kinds.specs.Kinds.{Operations, SameConstant}
use Rattle.terms.specs.declared.normal.Normal.{Normal}
use Rattle.terms.specs.Sets.{empty, singleton, symmetric_difference}
use Rattle.terms.specs.Terms.{Term, const, var, join, Equiv}

pub record SameNormal {C : Type 0} (k : Operations C) (a b : Normal C) : Type 0 where
  pub same_vars : a.vars ≡ b.vars
  pub same_constant : SameConstant k a.constant b.constant

abbrev pub of_constant : {C : Type 0} → C → Normal C
of_constant c = record { vars = empty; constant = c }

abbrev pub of_variable : {C : Type 0} → Operations C → ℕ → Normal C
of_variable k v = record { vars = singleton v; constant = k.zero }

abbrev pub joined : {C : Type 0} → Operations C → Normal C → Normal C → Normal C
joined k a b = record {
  vars = symmetric_difference a.vars b.vars;
  constant = k.join a.constant b.constant;
}

abbrev pub zero_form : {C : Type 0} → Operations C → Normal C
zero_form k = of_constant k.zero

abbrev pub value : {C : Type 0} → Operations C → (ℕ → Normal C) → Term C → Normal C
value k θ (const c) = of_constant c
value k θ (var v) = θ v
value k θ (join s t) = joined k (value k θ s) (value k θ t)

abbrev pub normal : {C : Type 0} → Operations C → Term C → Normal C
normal k t = value k (of_variable k) t

abbrev pub NormalFormsDecide : {C : Type 0} → Operations C → Type 0
NormalFormsDecide {C} k = (s t : Term C) → Equiv k s t ↔ SameNormal k (normal k s) (normal k t)
