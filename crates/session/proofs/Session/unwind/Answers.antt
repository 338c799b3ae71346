use Rattle.std.proofs.Common.{◌≡◌, ◌≤◌, ◌++◌, length, take, drop, ap, ◌∙◌}
use Rattle.std.proofs.lemmas.List.{length-take-le}
use Rattle.steps.proofs.Fronts.{whole_unbound}
use Rattle.heads.specs.Heads.{Memory}
use Rattle.session.proofs.Keeping.{front_stays}
use Rattle.session.proofs.Returning.{tracing_back, unwinding_end}
use Rattle.session.proofs.Session.unwind.Goals as goal

pub loop-binding-preserved-then-binding-n : goal.loop-binding-preserved-then-binding-n
loop-binding-preserved-then-binding-n g c =
    let before = c.loop-binding.invariant in
    let t = c.loop-binding.self in
    let popped = c.in-Some.ensures in
    let n = c.args.n in
    let slots = t.slots.now in
    let room : c.args.n ≤ length c.loop-binding.self.slots.now = rw (ap (λ (m : Memory). m.slots) before.memory.lengths) c.requires.room in
    let long : length (take c.args.n c.loop-binding.self.slots.now) ≡ c.args.n = length-take-le n slots room in
    let stays = front_stays g.K.Kind.ops n slots room c.unbind.new.row c.unbind.auto.row in
    record {
      traces = λ top h.
          tracing_back g.K.Kind.ops g.met.K.Kind.lawful n c.args.self.now.ledger.now t.trail c.pop_since.new.self c.in-Some.binding top c.args.mark slots (c.unbind.new.row ++ drop c.args.n c.loop-binding.self.slots.now)
          popped.0 popped.1
          (λ low. whole_unbound g.K.Kind.ops n c.unbind.new.row slots (c.unbind.auto.row ∙ long) c.in-Some.binding.variable c.in-Some.binding.changed low (rw long at c.unbind.ensures))
          (before.traces top h);
      head = before.head;
      slots = stays.0 ∙ before.slots;
      ledger = before.ledger;
      memory = record { slots = before.memory.slots; ledger = before.memory.ledger; lengths = rw stays.1 before.memory.lengths };
    }

pub returns-clause-unwound : goal.returns-clause-unwound
returns-clause-unwound g c =
    unwinding_end g.K.Kind.ops g.met.K.Kind.lawful c.args.n c.args.self.now c.loop-binding.self c.args.mark c.pop_since.new.self c.loop-binding.invariant
    c.in_default.ensures
