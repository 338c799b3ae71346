use Rattle.std.proofs.Common.{refl, length}
use Rattle.steps.proofs.RowSteps.{row_follows, row_binds}
use Rattle.steps.proofs.Trails.{row_undoable}
use Rattle.steps.proofs.take_in.Goals as goal

pub returns-in-Forced : goal.returns-in-Forced
returns-in-Forced g c =
    let told = c.in-Forced.ensures in
    record {
      verdict = told.verdict;
      grown = row_follows g.K.Kind.ops g.met.K.Kind.lawful (length c.args.row.now) c.args.row.now c.args.a told.remains;
      undoable = refl;
    }

pub returns-in-Open : goal.returns-in-Open
returns-in-Open g c =
    let k = g.K.Kind.ops in
    let lawful = g.met.K.Kind.lawful in
    let told = c.in-Open.ensures in
    let made = c.bind-changed.ensures in
    record {
      verdict = told.verdict;
      grown = row_binds k lawful (length c.args.row.now) c.args.row.now _ c.args.a c.in-Open.remainder c.in-Open.pivot told.remains made.bound;
      undoable = row_undoable k lawful (length c.args.row.now) c.args.row.now _ c.args.a c.in-Open.remainder c.in-Open.pivot c.bind-changed.result told.remains made.bound made.changed;
    }
