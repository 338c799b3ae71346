use Rattle.std.proofs.Common.{◌≡◌, take, length, ◌∙◌, arith}
use Rattle.std.proofs.lemmas.List.{take_all}
use Rattle.steps.proofs.RowSteps.{row_starts, resolves_more}
use Rattle.rows.proofs.solve_all.Goals as goal

pub loop-form-init : goal.loop-form-init
loop-form-init g c = λ θ o met. row_starts g.K.Kind.ops g.met.K.Kind.lawful (length c.args.row.now) c.restart.new.row c.restart.ensures

pub loop-form-preserved : goal.loop-form-preserved
loop-form-preserved g c =
    let long : length c.loop-form.row ≡ length c.args.row.now = c.loop-form.auto.row ∙ c.restart.auto.row in
    resolves_more g.K.Kind.ops g.met.K.Kind.lawful (length c.args.row.now) c.args.ledger.now c.loop-form.row c.take_in.new.row c.loop-form.form-index c.form-item.result c.take_in.result
    c.loop-form-test.true c.form-item.is (rw long at c.take_in.ensures.verdict) (rw long at c.take_in.ensures.grown) c.loop-form.invariant

pub returns : goal.returns
returns g c =
    let all : take c.loop-form.form-index c.args.ledger.now ≡ c.args.ledger.now = take_all c.loop-form.form-index c.args.ledger.now (omega arith) in
    λ θ o met. rw all at (c.loop-form.invariant θ o met)
