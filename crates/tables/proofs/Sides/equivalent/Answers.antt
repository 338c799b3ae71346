use Rattle.std.proofs.Common.{Bool, true, false}
use Rattle.std.proofs.lemmas.Result.{err_from_is_err_and}
use Rattle.kinds.specs.Kinds.{Operations, Lawful}
use Rattle.kinds.proofs.Laws.{same_when_unit, unit_when_same}
use Rattle.terms.specs.declared.normal.Normal.{Normal}
use Rattle.terms.specs.Terms.{Term, Equiv, join}
use Rattle.terms.specs.NormalForms.{SameNormal, zero_form, normal}
use Rattle.terms.specs.Decisions.{Decides}
use Rattle.terms.proofs.NormalForms.{normal_laws, normal_forms_decide}
use Rattle.tables.proofs.Sides.equivalent.Goals as goal

-- the join of two terms is zero exactly when they are equivalent
decided : {C : Type 0} (k : Operations C) → Lawful k → (s t : Term C) (x : Normal C) → SameNormal k x (normal k (join s t))
    → (b : Bool) → Decides b (SameNormal k x (zero_form k)) → Decides b (Equiv k s t)
decided k lawful s t x e true z =
    let normals = normal_laws lawful in
    (normal_forms_decide k lawful s t).1 (same_when_unit normals _ _ (normals.same_trans (normals.same_sym e) z))
decided k lawful s t x e false other =
    let normals = normal_laws lawful in
    λ h. other (normals.same_trans e (unit_when_same normals _ _ ((normal_forms_decide k lawful s t).0 h)))

pub returns-in_err-form : goal.returns-in_err-form
returns-in_err-form g c =
    let e = err_from_is_err_and c.from_residual.result c.from_residual.ensures.1 in
    record {
      result = rw (e.1, e.2) c.in_err-form.ensures.result;
      work = c.in_err-form.ensures.work;
      decide = normal_forms_decide g.K.Kind.ops g.met.K.Kind.lawful;
    }

pub returns : goal.returns
returns g c =
    let ok = c.in_ok-form.ensures.result in
    record {
      result = (ok.0, ok.1, decided g.K.Kind.ops g.met.K.Kind.lawful _ _ c.in_ok-form.form ok.2 c.same.result (rw c.zero.ensures at c.same.ensures));
      work = c.in_ok-form.ensures.work;
      decide = normal_forms_decide g.K.Kind.ops g.met.K.Kind.lawful;
    }
