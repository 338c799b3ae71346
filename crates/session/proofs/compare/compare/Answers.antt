use Rattle.std.proofs.Common.{◌∙◌, ◌≡◌, ◌≤◌, length, sym, arith}
use Rattle.steps.proofs.Fronts.{fronts_same}
use Rattle.session.specs.Keeping.{size_of}
use Rattle.session.specs.Comparing.{first_closed, second_closed, sizes, same, different}
use Rattle.session.proofs.Keeping.{passed_on, ready_as, not_ready, size_as}
use Rattle.session.proofs.Agreeing.{agreed}
use Rattle.session.proofs.compare.compare.Goals as goal

pub returns-in_err-n-clause-result : goal.returns-in_err-n-clause-result
returns-in_err-n-clause-result g c =
    rw (passed_on c.from_residual.result c.in_err-n.field-0.0 c.from_residual.ensures.1, c.in_err-n.ensures.0)
    (first_closed (not_ready c.args.first.now c.in_err-n.ensures.1))

pub returns-in_err-opened-clause-result : goal.returns-in_err-opened-clause-result
returns-in_err-opened-clause-result g c =
    rw (passed_on c.from_residual-in_err-opened.result c.in_err-opened.field-0.0 c.from_residual-in_err-opened.ensures.1, c.in_err-opened.ensures.0)
    (second_closed (ready_as c.args.first.now c.in_ok-n.ensures) (not_ready c.args.second.now c.in_err-opened.ensures.1))

pub returns-then-branch-clause-result : goal.returns-then-branch-clause-result
returns-then-branch-clause-result g c =
    let s = c.args.first.now in
    let t = c.args.second.now in
    sizes (ready_as s c.in_ok-n.ensures) (ready_as t c.in_ok-opened.ensures)
    (λ e. c.if-branch.true (sym (size_as s c.in_ok-n.ensures) ∙ e ∙ size_as t c.in_ok-opened.ensures))

pub returns-then-same_images : goal.returns-then-same_images
returns-then-same_images g c =
    let s = c.args.first.now in
    let t = c.args.second.now in
    let alike : size_of c.args.first.now ≡ size_of c.args.second.now = size_as s c.in_ok-n.ensures ∙ c.if-branch.false ∙ sym (size_as t c.in_ok-opened.ensures) in
    let n = c.in_ok-n.field-0.now.size in
    let other : n ≤ length c.args.second.now.slots.now = omega (arith, (t.fits c.in_ok-opened.field-0.now c.in_ok-opened.ensures).room, c.if-branch.false) in
    let both = fronts_same g.K.Kind.ops n s.slots.now t.slots.now (s.fits c.in_ok-n.field-0.now c.in_ok-n.ensures).room other in
    let r = same (ready_as s c.in_ok-n.ensures) (ready_as t c.in_ok-opened.ensures) alike (rw (size_as s c.in_ok-n.ensures) (both.0 c.if-same_images.ensures)) in
    record { result = r; solutions = agreed g.K.Kind.ops g.met.K.Kind.lawful s t r }

pub returns-else-same_images : goal.returns-else-same_images
returns-else-same_images g c =
    let s = c.args.first.now in
    let t = c.args.second.now in
    let alike : size_of c.args.first.now ≡ size_of c.args.second.now = size_as s c.in_ok-n.ensures ∙ c.if-branch.false ∙ sym (size_as t c.in_ok-opened.ensures) in
    let n = c.in_ok-n.field-0.now.size in
    let other : n ≤ length c.args.second.now.slots.now = omega (arith, (t.fits c.in_ok-opened.field-0.now c.in_ok-opened.ensures).room, c.if-branch.false) in
    let both = fronts_same g.K.Kind.ops n s.slots.now t.slots.now (s.fits c.in_ok-n.field-0.now c.in_ok-n.ensures).room other in
    let r = different (ready_as s c.in_ok-n.ensures) (ready_as t c.in_ok-opened.ensures) alike (rw (size_as s c.in_ok-n.ensures) (λ h. c.if-same_images.ensures (both.1 h))) in
    record { result = r; solutions = agreed g.K.Kind.ops g.met.K.Kind.lawful s t r }
