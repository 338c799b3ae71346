use Rattle.std.proofs.Common.{refl}
use Rattle.session.specs.Accounts.{use_of, mark}
use Rattle.session.specs.Keeping.{reply}
use Rattle.session.proofs.Keeping.{answered_closed, answered_open, marking}
use Rattle.session.proofs.Session.mark.Goals as goal

pub returns-in_default-clause-told : goal.returns-in_default-clause-told
returns-in_default-clause-told g c = answered_closed g.K.Kind.ops c.args.self.now mark c.in_default.is

pub returns-clause-told : goal.returns-clause-told
returns-clause-told g c =
    answered_open g.K.Kind.ops c.args.self.now c.in-Some.is _ (use_of mark) (reply c.mark.result)
    (λ a kept. let q = marking g.K.Kind.ops g.met.K.Kind.lawful kept c.mark.result c.mark.new.self c.mark.ensures in (q.0, q.1, (c.mark.new.self, refl, q.2)))
