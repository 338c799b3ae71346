use Rattle.std.proofs.Common.{length}
use Rattle.terms.specs.NormalForms.{normal}
use Rattle.tables.specs.Tables.{term_at}
use Rattle.tables.proofs.Counting.{Counted}
use Rattle.tables.proofs.collect.Given as goal

abbrev pub invariant-loop-i : goal.invariant-loop-i
invariant-loop-i g l =
    Counted g.K.Kind.ops g.met.K.Kind.lawful (λ j. normal g.K.Kind.ops (term_at g.K.Kind.ops l.table j)) (length l.table)
    l.initial.work l.sum l.work l.i
