use Rattle.steps.specs.declared.verdict.Verdict.TheVariants.{Forced, Never, Open}
use Rattle.session.proofs.Keeping.{judging}
use Rattle.session.proofs.Session.query_form.Goals as goal

pub returns-in-Forced : goal.returns-in-Forced
returns-in-Forced g c =
    judging g.K.Kind.ops g.met.K.Kind.lawful c.args.self.now c.in_ok-n.field-0.now c.in_ok-n.ensures c.args.form Forced c.in-Forced.ensures.verdict

pub returns-in-Never : goal.returns-in-Never
returns-in-Never g c =
    judging g.K.Kind.ops g.met.K.Kind.lawful c.args.self.now c.in_ok-n.field-0.now c.in_ok-n.ensures c.args.form Never c.in-Never.ensures.verdict

pub returns-in-Open : goal.returns-in-Open
returns-in-Open g c =
    judging g.K.Kind.ops g.met.K.Kind.lawful c.args.self.now c.in_ok-n.field-0.now c.in_ok-n.ensures c.args.form Open c.in-Open.ensures.verdict
