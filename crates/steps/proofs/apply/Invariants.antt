use Rattle.std.proofs.Common.{length}
use Rattle.terms.specs.Limits.{most_variables}
use Rattle.terms.specs.NormalForms.{SameNormal}
use Rattle.terms.specs.Sets.{has}
use Rattle.terms.specs.Sums.{count}
use Rattle.steps.specs.Rows.{images}
use Rattle.solving.proofs.Applying.{with_images}
use Rattle.steps.proofs.apply.Given as goal

abbrev pub invariant-loop-v : goal.invariant-loop-v
invariant-loop-v g l =
    let k = g.K.Kind.ops in
    let σ = images k l.row in
    let whole = with_images k g.met.K.Kind.lawful (length l.row) σ in
    SameNormal k (whole l.sum l.rest) (whole l.initial.sum l.initial.rest)

abbrev pub decreases-loop-v : goal.decreases-loop-v
decreases-loop-v g l = count most_variables (has l.rest)
