use Rattle.std.proofs.Common.{sym, ◌∙◌, length}
use Rattle.terms.proofs.NormalForms.{normal_laws}
use Rattle.steps.specs.Rows.{Remains}
use Rattle.steps.specs.declared.Judgement.TheVariants.{Forced, Never, Open}
use Rattle.steps.proofs.RowSteps.{judged}
use Rattle.steps.proofs.judge.Goals as goal

pub returns-in-Some : goal.returns-in-Some
returns-in-Some g c =
    let k = g.K.Kind.ops in
    let p = c.in-Some.pivot in
    let r = c.apply-remainder.result in
    let h : Remains k (length c.args.row.now) c.args.row.now c.args.a (Open p r) = (c.apply-remainder.ensures, c.in-Some.ensures.0, c.in-Some.ensures.1) in
    record { verdict = judged k g.met.K.Kind.lawful (length c.args.row.now) c.args.row.now c.args.a (Open p r) h; remains = h }

pub returns-in-None : goal.returns-in-None
returns-in-None g c =
    let k = g.K.Kind.ops in
    let N = normal_laws g.met.K.Kind.lawful in
    let h : Remains k (length c.args.row.now) c.args.row.now c.args.a Forced = N.same_trans (N.same_sym c.apply-remainder.ensures) (rw c.zero.ensures at c.if-same.ensures) in
    record { verdict = judged k g.met.K.Kind.lawful (length c.args.row.now) c.args.row.now c.args.a Forced h; remains = h }

pub returns-in-None-2 : goal.returns-in-None-2
returns-in-None-2 g c =
    let k = g.K.Kind.ops in
    let N = normal_laws g.met.K.Kind.lawful in
    let e = c.apply-remainder.ensures in
    let h : Remains k (length c.args.row.now) c.args.row.now c.args.a Never = (sym e.same_vars ∙ c.in-None.ensures, λ z. (rw c.zero.ensures at c.if-same.ensures) (N.same_trans e z)) in
    record { verdict = judged k g.met.K.Kind.lawful (length c.args.row.now) c.args.row.now c.args.a Never h; remains = h }
