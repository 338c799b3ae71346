use Rattle.std.proofs.Common.{◌≡◌, ◌∙◌, Ok, Err, length, sym, refl, ap}
use Rattle.refusals.specs.declared.Refusal.TheVariants.{NoMark}
use Rattle.heads.specs.Heads.{Memory, counted_head}
use Rattle.session.specs.declared.answer.Reply.TheVariants.{Done}
use Rattle.session.specs.Accounts.{use_of, return_to_mark, no_mark}
use Rattle.session.specs.Keeping.{memory_of}
use Rattle.session.proofs.Keeping.{passed_on, answered_closed, answered_open}
use Rattle.session.proofs.Returning.{before, return_step, keeps_all, keeps_first}
use Rattle.session.proofs.Session.return_to_mark.Goals as goal

pub returns-in_default-clause-told : goal.returns-in_default-clause-told
returns-in_default-clause-told g c = answered_closed g.K.Kind.ops c.args.self.now return_to_mark c.in_default.is

pub returns-in_err-mark-clause-told : goal.returns-in_err-mark-clause-told
returns-in_err-mark-clause-told g c =
    let unmarked = c.in_err-mark.ensures in
    rw (passed_on c.from_residual.result c.in_err-mark.field-0.0 c.from_residual.ensures.1, unmarked.0)
    (answered_open g.K.Kind.ops c.args.self.now c.in-Some.is _ (use_of return_to_mark) (Err NoMark)
    (λ a kept. (a, no_mark (sym kept.marks ∙ unmarked.1), (c.unmark.new.self, refl, rw unmarked.2 kept))))

pub returns-then-mark-head-clause-told : goal.returns-then-mark-head-clause-told
returns-then-mark-head-clause-told g c =
    let k = g.K.Kind.ops in
    let l = g.met.K.Kind.lawful in
    let s = c.args.self.now in
    let t = c.unwind.new.self in
    let h = c.unmark.new.self in
    let m = c.in_ok-mark.mark in
    let done = c.unwind.ensures in
    let unmarked = c.in_ok-mark.ensures in
    let long : length c.unwind.new.self.slots.now ≡ length c.args.self.now.slots.now = ap (λ (z : Memory). z.slots) done.memory.lengths in
    let sized : c.in-Some.head.size ≡ c.unmark.new.self.size = unmarked.counts.size in
    answered_open k s c.in-Some.is _ (use_of return_to_mark) (Ok Done) (λ a kept. (
      before k l kept h m unmarked,
      return_step k l kept h m unmarked (memory_of s),
      (counted_head h m, done.head, rw done.ledger (keeps_first k l kept h m unmarked c.if-mark-head.true t.trail t.slots.now long (rw sized at done.unwound))),
    ))

pub returns-else-mark-head-clause-told : goal.returns-else-mark-head-clause-told
returns-else-mark-head-clause-told g c =
    let k = g.K.Kind.ops in
    let l = g.met.K.Kind.lawful in
    let h = c.unmark.new.self in
    let m = c.in_ok-mark.mark in
    answered_open k c.args.self.now c.in-Some.is _ (use_of return_to_mark) (Ok Done) (λ a kept. (
      before k l kept h m c.in_ok-mark.ensures,
      return_step k l kept h m c.in_ok-mark.ensures (memory_of c.args.self.now),
      (h, refl, keeps_all k l kept h m c.in_ok-mark.ensures c.if-mark-head.false),
    ))
