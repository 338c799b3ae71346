use Rattle.std.proofs.Common.{◌≡◌, ◌<◌, true, length, sym, ◌∙◌, ap₂, arith}
use Rattle.std.proofs.lemmas.Bool.{cond-true}
use Rattle.terms.specs.Limits.{most_variables}
use Rattle.terms.specs.Sets.{has}
use Rattle.terms.specs.NormalForms.{of_variable, joined}
use Rattle.terms.proofs.SetFacts.{members_fall}
use Rattle.steps.specs.Rows.{images}
use Rattle.steps.proofs.RowSteps.{row_read, rewriting_read, visiting_put, visiting_beyond, visiting_end}
use Rattle.steps.proofs.unbind.Goals as goal

pub loop-v-preserved-then-v-row : goal.loop-v-preserved-then-v-row
loop-v-preserved-then-v-row g c =
    let k = g.K.Kind.ops in
    let v = c.in-Some.v in
    let p = c.args.p in
    let σ = images g.K.Kind.ops c.args.row.now in
    let there : has c.loop-v.rest v ≡ true = c.in-Some.ensures.0.0 in
    let low : v < length c.loop-v.row = omega arith in
    let x : c.index-row-v.result ≡ σ v = rewriting_read k _ _ _ _ c.loop-v.invariant.row v _ low c.index-row-v.is there in
    let own : c.index-row-p.result ≡ σ p = row_read k c.args.row.now p _ (omega (arith, c.requires.variable)) c.index-row-p.is in
    let r : c.join-remainder.result ≡ joined k (of_variable k p) (σ p) = c.join-remainder.ensures ∙ ap₂ (joined k) c.of_variable-variable.ensures own in
    let y : c.join.result ≡ joined k (σ v) (joined k (of_variable k p) (σ p)) = c.join.ensures ∙ ap₂ (joined k) x r in
    rw (c.in-Some.ensures.2)
    (visiting_put k _ _ _ _ c.loop-v.rest c.loop-v.row c.loop-v.invariant v there _ (omega arith) low (y ∙ sym (cond-true _ _ _ (c.loop-v.invariant.members v there))))

pub loop-v-preserved : goal.loop-v-preserved
loop-v-preserved g c =
    rw (c.in-Some.ensures.2)
    (visiting_beyond _ _ _ _ _ c.loop-v.rest c.loop-v.row c.loop-v.invariant c.in-Some.v c.in-Some.ensures.0.0 (omega arith))

pub loop-v-smaller-then-v-row : goal.loop-v-smaller-then-v-row
loop-v-smaller-then-v-row g c =
    rw (c.in-Some.ensures.2)
    (members_fall most_variables c.loop-v.rest c.in-Some.v c.in-Some.ensures.1 c.in-Some.ensures.0.0)

pub loop-v-smaller : goal.loop-v-smaller
loop-v-smaller g c =
    rw (c.in-Some.ensures.2)
    (members_fall most_variables c.loop-v.rest c.in-Some.v c.in-Some.ensures.1 c.in-Some.ensures.0.0)

pub returns : goal.returns
returns g c = visiting_end _ _ _ _ _ c.loop-v.row (rw c.in_default.ensures.0 at c.loop-v.invariant)
