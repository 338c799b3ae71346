use Rattle.std.proofs.Common.{length}
use Rattle.heads.specs.Heads.{bindings_of}
use Rattle.session.proofs.Returning.{Unwinding}
use Rattle.session.proofs.Session.unwind.Given as goal

abbrev pub invariant-loop-binding : goal.invariant-loop-binding
invariant-loop-binding g l = Unwinding g.K.Kind.ops l.n l.initial.self l.mark l.self

abbrev pub decreases-loop-binding : goal.decreases-loop-binding
decreases-loop-binding g l = length (bindings_of l.self.trail)
