use Rattle.std.proofs.Common.{length, Err}
use Rattle.tables.specs.Tables.{Input}
use Rattle.tables.specs.Calls.{input_of}
use Rattle.session.specs.Accounts.{use_of, post, equation, post_unsound}
use Rattle.session.specs.Keeping.{posted_reply, memory_of}
use Rattle.session.proofs.Keeping.{passed_on, worked_input, answered_closed, answered_open, unsound_only, sound_here, within_here, posted_step}
use Rattle.session.proofs.Session.post.Goals as goal

pub returns-in_err-opened-clause-told : goal.returns-in_err-opened-clause-told
returns-in_err-opened-clause-told g c =
    rw (passed_on c.from_residual.result c.in_err-opened.field-0.0 c.from_residual.ensures.1, c.in_err-opened.ensures.0)
    (answered_closed g.K.Kind.ops c.args.self.now (post (input_of c.args.sides (length c.args.work.now))) c.in_err-opened.ensures.1)

pub returns-in_err-form-clause-told : goal.returns-in_err-form-clause-told
returns-in_err-form-clause-told g c =
    let s = c.args.self.now in
    let h = c.in_ok-opened.field-0.now in
    let e = c.in_ok-opened.ensures in
    let i : Input g.row.K.Denot = input_of c.args.sides (length c.args.work.now) in
    let q = c.in_err-form.field-0.0 in
    let refused = unsound_only h.size i q (s.fits h e).range c.in_err-form.ensures.result in
    rw (passed_on c.from_residual-in_err-form.result c.in_err-form.field-0.0 c.from_residual-in_err-form.ensures.1)
    (answered_open g.K.Kind.ops s e _ (use_of (post i)) (Err q) (λ a kept. (a, post_unsound (rw kept.size refused), (h, e, kept))))

pub returns-clause-told : goal.returns-clause-told
returns-clause-told g c =
    let k = g.K.Kind.ops in
    let l = g.met.K.Kind.lawful in
    let s = c.args.self.now in
    let i : Input g.row.K.Denot = input_of c.args.sides (length c.args.work.now) in
    let ok = c.in_ok-form.ensures.result in
    answered_open k s c.in_ok-opened.ensures _ (use_of (post i)) (posted_reply c.post_form.result) (λ a kept.
    let q = c.post_form.ensures.told a (equation k i) (c.in_ok-opened.field-0.now, c.in_ok-opened.ensures, kept) (within_here k l kept i ok.1) ok.2 in
    (q.0, posted_step k (memory_of s) a q.0 i c.post_form.result (sound_here k l kept i ok.1) q.1, q.2))

pub returns-in_err-form-clause-work : goal.returns-in_err-form-clause-work
returns-in_err-form-clause-work g c =
    worked_input c.args.self.now c.in_ok-opened.ensures (input_of c.args.sides (length c.args.work.now)) (length c.args.sides.table.now) c.args.work.now c.joined_form.new.work
    c.joined_form.ensures.work

pub returns-clause-work : goal.returns-clause-work
returns-clause-work g c =
    worked_input c.args.self.now c.in_ok-opened.ensures (input_of c.args.sides (length c.args.work.now)) (length c.args.sides.table.now) c.args.work.now c.joined_form.new.work
    c.joined_form.ensures.work
