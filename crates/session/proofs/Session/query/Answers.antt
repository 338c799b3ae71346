use Rattle.std.proofs.Common.{◌≡◌, length, Ok, Err, Result, Some, None}
use Rattle.std.specs.Result.{MatchResult}
use Rattle.kinds.specs.Kinds.{Operations, Lawful}
use Rattle.refusals.specs.declared.Refusal.{Refusal}
use Rattle.refusals.specs.declared.Refusal.TheVariants.{Closed}
use Rattle.terms.specs.declared.normal.Normal.{Normal}
use Rattle.terms.specs.NormalForms.{SameNormal}
use Rattle.tables.specs.Tables.{Input, Sound}
use Rattle.solving.specs.Equations.{joined_sides}
use Rattle.steps.specs.declared.verdict.Verdict.{Verdict}
use Rattle.heads.specs.declared.head.Head.{Head}
use Rattle.session.specs.declared.Session.{Session}
use Rattle.session.specs.Keeping.{Judges, Answered, told_reply}
use Rattle.tables.specs.Calls.{input_of}
use Rattle.session.specs.declared.answer.Reply.TheVariants.{Told}
use Rattle.session.specs.Accounts.{use_of, query, equation, query_unsound, query_told}
use Rattle.session.proofs.Keeping.{passed_on, worked_input, answered_closed, answered_same, unsound_only, sound_here, within_here, no_head}
use Rattle.session.proofs.Session.query.Goals as goal

pub returns-in_err-opened-clause-told : goal.returns-in_err-opened-clause-told
returns-in_err-opened-clause-told g c =
    rw (passed_on c.from_residual.result c.in_err-opened.field-0.0 c.from_residual.ensures.1, c.in_err-opened.ensures.0)
    (answered_closed g.K.Kind.ops c.args.self.now (query (input_of c.args.sides (length c.args.work.now))) c.in_err-opened.ensures.1)

pub returns-in_err-form-clause-told : goal.returns-in_err-form-clause-told
returns-in_err-form-clause-told g c =
    let s = c.args.self.now in
    let e = c.in_ok-opened.ensures in
    let i : Input g.row.K.Denot = input_of c.args.sides (length c.args.work.now) in
    let q = c.in_err-form.field-0.0 in
    let refused = unsound_only c.in_ok-opened.field-0.now.size i q (s.fits c.in_ok-opened.field-0.now e).range c.in_err-form.ensures.result in
    rw (passed_on c.from_residual-in_err-form.result c.in_err-form.field-0.0 c.from_residual-in_err-form.ensures.1)
    (answered_same g.K.Kind.ops s e (use_of (query i)) (Err q) (λ a kept. query_unsound (rw kept.size refused)))

-- what is told of a normal form is told of the equation
telling : {C : Type 0} (k : Operations C) (lawful : Lawful k) (s : Session C) (h : Head) (e : s.head ≡ Some h) (i : Input C) (form : Normal C) → Sound h.size i
    → SameNormal k form (joined_sides k (equation k i)) → (r : Result Verdict Refusal) → MatchResult r (Judges k s form) (λ q. (q ≡ Closed) × (s.head ≡ None))
    → Answered k s (use_of (query i)) (told_reply r) s
telling k lawful s h e i form sound same (Ok w) judges =
    answered_same k s e (use_of (query i)) (Ok (Told w)) (λ a kept.
    query_told (sound_here k lawful kept i sound) (judges a (equation k i) (h, e, kept) (within_here k lawful kept i sound) same))
telling k lawful s h e i form sound same (Err q) closed = absurd (no_head closed.1 e)

pub returns-clause-told : goal.returns-clause-told
returns-clause-told g c =
    let ok = c.in_ok-form.ensures.result in
    telling g.K.Kind.ops g.met.K.Kind.lawful c.args.self.now c.in_ok-opened.field-0.now c.in_ok-opened.ensures (input_of c.args.sides (length c.args.work.now)) c.in_ok-form.form ok.1 ok.2
    c.query_form.result c.query_form.ensures

pub returns-in_err-form-clause-work : goal.returns-in_err-form-clause-work
returns-in_err-form-clause-work g c =
    worked_input c.args.self.now c.in_ok-opened.ensures (input_of c.args.sides (length c.args.work.now)) (length c.args.sides.table.now) c.args.work.now c.joined_form.new.work
    c.joined_form.ensures.work

pub returns-clause-work : goal.returns-clause-work
returns-clause-work g c =
    worked_input c.args.self.now c.in_ok-opened.ensures (input_of c.args.sides (length c.args.work.now)) (length c.args.sides.table.now) c.args.work.now c.joined_form.new.work
    c.joined_form.ensures.work
