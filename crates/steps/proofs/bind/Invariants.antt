use Rattle.std.proofs.Common.{length}
use Rattle.terms.specs.Sets.{has}
use Rattle.solving.specs.SolvedForms.{binding}
use Rattle.steps.specs.Rows.{images}
use Rattle.steps.proofs.RowSteps.{Passing, Noted}
use Rattle.steps.proofs.bind.Given as goal

abbrev pub invariant-loop-v : goal.invariant-loop-v
invariant-loop-v g l =
    let σ = images g.K.Kind.ops l.initial.row in
    Passing g.K.Kind.ops (length l.initial.row) l.v (binding g.K.Kind.ops l.pivot l.remainder σ) l.initial.row l.row
    × Noted l.v (λ u. has (σ u).vars l.pivot) l.changed
