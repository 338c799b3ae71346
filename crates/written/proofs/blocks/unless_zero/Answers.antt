use Rattle.std.proofs.Common.{sym, refl, arith}
use Rattle.std.proofs.lemmas.Bool.{cond-true, cond-false, false≢true}
use Rattle.written.proofs.Spellings.{zero_same, same_zero}
use Rattle.written.proofs.blocks.unless_zero.Goals as goal

pub returns-then-all_zero-clause-value : goal.returns-then-all_zero-clause-value
returns-then-all_zero-clause-value c =
    sym (cond-true _ _ _ (zero_same c.args.block.now (λ i l. c.if-all_zero.ensures.value.0 refl i (omega arith))))

pub returns-else-all_zero-clause-value : goal.returns-else-all_zero-clause-value
returns-else-all_zero-clause-value c =
    sym (cond-false _ _ _ (same_zero c.args.block.now (λ h. false≢true (c.if-all_zero.ensures.value.1 (λ i l. h i (omega arith))))))
