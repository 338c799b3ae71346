use Rattle.std.proofs.Common.{length}
use Rattle.terms.specs.Limits.{most_variables}
use Rattle.terms.specs.Sets.{has}
use Rattle.terms.specs.Sums.{count}
use Rattle.steps.specs.Rows.{images}
use Rattle.steps.specs.Trails.{unbinding}
use Rattle.steps.proofs.RowSteps.{Visiting}
use Rattle.steps.proofs.unbind.Given as goal

abbrev pub invariant-loop-v : goal.invariant-loop-v
invariant-loop-v g l = Visiting g.K.Kind.ops (length l.initial.row) l.initial.rest l.rest (unbinding g.K.Kind.ops l.p l.initial.rest (images g.K.Kind.ops l.initial.row)) l.initial.row l.row

abbrev pub decreases-loop-v : goal.decreases-loop-v
decreases-loop-v g l = count most_variables (has l.rest)
