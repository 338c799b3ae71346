use Rattle.std.proofs.Common.{◌≡◌, ◌∙◌, get_or, Ok, Err, sym, subst, arith}
use Rattle.std.proofs.lemmas.List.{get_or_read}
use Rattle.steps.specs.Rows.{images}
use Rattle.session.specs.declared.answer.Reply.TheVariants.{Image}
use Rattle.refusals.specs.declared.Refusal.TheVariants.{NothingToShow}
use Rattle.session.specs.Accounts.{opened, use_of, show, Step, no_variable}
use Rattle.session.specs.Keeping.{memory_of}
use Rattle.session.proofs.Keeping.{passed_on, answered_closed, answered_same, showing}
use Rattle.session.proofs.Session.show.Goals as goal

pub returns-in_err-opened-clause-told : goal.returns-in_err-opened-clause-told
returns-in_err-opened-clause-told g c =
    rw (passed_on c.from_residual.result c.in_err-opened.field-0.0 c.from_residual.ensures.1, c.in_err-opened.ensures.0)
    (answered_closed g.K.Kind.ops c.args.self.now (show c.args.variable) c.in_err-opened.ensures.1)

pub returns-then-branch-clause-told : goal.returns-then-branch-clause-told
returns-then-branch-clause-told g c =
    answered_same g.K.Kind.ops c.args.self.now c.in_ok-opened.ensures (use_of (show c.args.variable)) (Err NothingToShow)
    (λ a kept. no_variable (omega (arith, kept.size, c.if-branch.true)))

pub returns-clause-told : goal.returns-clause-told
returns-clause-told g c =
    let k = g.K.Kind.ops in
    let s = c.args.self.now in
    let e = c.in_ok-opened.ensures in
    let v = c.args.variable in
    let read : get_or c.args.self.now.slots.now c.args.variable c.index-self-variable.result ≡ images g.K.Kind.ops c.args.self.now.slots.now c.args.variable
    = sym c.index-self-variable.is
    ∙ get_or_read s.slots.now v c.index-self-variable.result (omega (arith, (s.fits c.in_ok-opened.field-0.now e).room, c.if-branch.false)) c.index-self-variable.is _ in
    answered_same k s e (use_of (show v)) _ (λ a kept.
    subst (λ y. Step g.K.Kind.ops (memory_of c.args.self.now) (opened a) (use_of (show c.args.variable)) (Ok (Image y)) (opened a)) (sym read)
    (showing k g.met.K.Kind.lawful kept v c.if-branch.false))
