use Rattle.std.proofs.Common.{length, take}
use Rattle.steps.specs.Rows.{Resolves}
use Rattle.rows.proofs.solve_all.Given as goal

abbrev pub invariant-loop-form : goal.invariant-loop-form
invariant-loop-form g l = Resolves g.K.Kind.ops (length l.fn.row) l.ledger (take l.form-index l.ledger) l.row
