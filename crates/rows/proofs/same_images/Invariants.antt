use Rattle.std.proofs.Common.{length}
use Rattle.solving.specs.Substitutions.{SameSubstitution}
use Rattle.steps.specs.Rows.{images}
use Rattle.rows.proofs.same_images.Given as goal

abbrev pub invariant-loop-ours : goal.invariant-loop-ours
invariant-loop-ours g l = SameSubstitution g.K.Kind.ops (length l.yielded) (images g.K.Kind.ops l.row) (images g.K.Kind.ops l.other)
