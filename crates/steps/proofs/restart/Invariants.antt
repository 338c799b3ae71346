use Rattle.std.proofs.Common.{length}
use Rattle.terms.specs.NormalForms.{of_variable}
use Rattle.steps.proofs.RowSteps.{Passing}
use Rattle.steps.proofs.restart.Given as goal

abbrev pub invariant-loop-v : goal.invariant-loop-v
invariant-loop-v g l = Passing g.K.Kind.ops (length l.initial.row) l.v (of_variable g.K.Kind.ops) l.initial.row l.row
