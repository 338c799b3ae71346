use Rattle.std.proofs.Common.{◌≡◌, length}
use Rattle.terms.specs.Limits.{most_variables}
use Rattle.terms.proofs.SetFacts.{members_fall}
use Rattle.terms.proofs.NormalForms.{normal_laws}
use Rattle.steps.specs.Rows.{images}
use Rattle.solving.proofs.Applying.{image_in, image_beyond, apply_from}
use Rattle.steps.proofs.RowSteps.{row_read}
use Rattle.steps.proofs.apply.Goals as goal

pub loop-v-preserved-then-v-row : goal.loop-v-preserved-then-v-row
loop-v-preserved-then-v-row g c =
    let k = g.K.Kind.ops in
    let v = c.in-Some.v in
    let read : c.index-row-v.result ≡ images k c.args.row.now v
    = row_read k c.args.row.now v _ (c.if-v-row.true) c.index-row-v.is in
    rw (c.join-sum.ensures, read, c.in-Some.ensures.2)
    ((normal_laws g.met.K.Kind.lawful).same_trans (image_in k g.met.K.Kind.lawful (length c.args.row.now) (images k c.args.row.now) c.loop-v.sum c.loop-v.rest v c.if-v-row.true) c.loop-v.invariant)

pub loop-v-preserved : goal.loop-v-preserved
loop-v-preserved g c =
    let k = g.K.Kind.ops in
    rw (c.in-Some.ensures.2)
    ((normal_laws g.met.K.Kind.lawful).same_trans (image_beyond k g.met.K.Kind.lawful (length c.args.row.now) (images k c.args.row.now) c.loop-v.sum c.loop-v.rest c.in-Some.v c.if-v-row.false) c.loop-v.invariant)

pub loop-v-smaller-then-v-row : goal.loop-v-smaller-then-v-row
loop-v-smaller-then-v-row g c =
    rw (c.in-Some.ensures.2)
    (members_fall most_variables c.loop-v.rest c.in-Some.v c.in-Some.ensures.1 c.in-Some.ensures.0.0)

pub loop-v-smaller : goal.loop-v-smaller
loop-v-smaller g c =
    rw (c.in-Some.ensures.2)
    (members_fall most_variables c.loop-v.rest c.in-Some.v c.in-Some.ensures.1 c.in-Some.ensures.0.0)

pub returns : goal.returns
returns g c =
    apply_from g.K.Kind.ops g.met.K.Kind.lawful (length c.args.row.now) (images g.K.Kind.ops c.args.row.now) c.args.a c.loop-v.sum
    (rw (c.in_default.ensures.0, c.of_constant-sum.ensures) at c.loop-v.invariant)
