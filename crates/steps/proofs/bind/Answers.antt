use Rattle.std.proofs.Common.{◌≡◌, ◌<◌, true, false, length, get_or, sym, ap, ◌∙◌, arith}
use Rattle.std.proofs.lemmas.Bool.{cond-true, cond-false}
use Rattle.terms.specs.Sets.{has}
use Rattle.terms.specs.NormalForms.{joined}
use Rattle.steps.specs.Rows.{images}
use Rattle.steps.proofs.RowSteps.{passing_start, passing_put, rewriting_read, noted_start, noted_in, noted_out}
use Rattle.steps.proofs.bind.Goals as goal
use Rattle.steps.proofs.bind.Goals.{then-contains, else-contains}

pub loop-v-init : goal.loop-v-init
loop-v-init g c = (passing_start _ _ _ _, rw c.empty-changed.ensures (noted_start _))

pub loop-v-preserved : goal.loop-v-preserved
loop-v-preserved g c =
    let k = g.K.Kind.ops in
    let v = c.loop-v.v in
    let p = c.args.pivot in
    let x = c.index-row-v.result in
    let σ = images g.K.Kind.ops c.args.row.now in
    let long : c.loop-v.v < length c.loop-v.row = omega (arith) in
    let read : get_or c.loop-v.row v x ≡ σ v = sym c.index-row-v.is ∙ rewriting_read k _ _ _ _ c.loop-v.invariant.0 v x long c.index-row-v.is (omega arith) in
    elim c.if-contains.branch [
      | then-contains w ↦
          let t : has (σ v).vars p ≡ true = ap (λ z. has z.vars p) (sym read) ∙ sym w.if-contains.ensures in
          let y : w.join.result ≡ joined k (σ v) c.args.remainder = w.join.ensures ∙ ap (λ z. joined k z c.args.remainder) read in (
            rw w.row-is (passing_put k _ _ _ v c.loop-v.row w.join.result c.loop-v-test.true long (y ∙ sym (cond-true _ _ _ t)) c.loop-v.invariant.0),
            rw (w.changed-is, w.symmetric_difference-changed.ensures, w.singleton.ensures) (noted_in v _ c.loop-v.changed c.loop-v.invariant.1 t),
          )
      | else-contains w ↦
          let f : has (σ v).vars p ≡ false = ap (λ z. has z.vars p) (sym read) ∙ sym w.if-contains.ensures in (
            rw w.row-is (passing_put k _ _ _ v c.loop-v.row (get_or c.loop-v.row v x) c.loop-v-test.true long (read ∙ sym (cond-false _ _ _ f)) c.loop-v.invariant.0),
            rw w.changed-is (noted_out v _ c.loop-v.changed c.loop-v.invariant.1 f),
          )
    ]
