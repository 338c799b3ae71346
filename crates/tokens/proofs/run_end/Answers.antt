use Rattle.std.proofs.Common.{◌+◌, drop, sym, subst, ap, ◌∙◌}
use Rattle.std.proofs.lemmas.List.{take_rest}
use Rattle.std.proofs.lemmas.List.Folds.{length-prefix_len}
use Rattle.std.proofs.lemmas.Iterator.{YieldsList-from_slice}
use Rattle.std.proofs.lemmas.Iterator.Consumers.{YieldsList-from_copied, YieldsList-at, count_from_yields_List}
use Rattle.std.proofs.lemmas.Iterator.Search.{YieldsList-from_take_while}
use Rattle.tokens.specs.Tokens.{Run}
use Rattle.tokens.proofs.Stretches.{run_from}
use Rattle.tokens.proofs.run_end.Goals as goal

pub returns-clause-run : goal.returns-clause-run
returns-clause-run g c p t =
    let line = c.args.line.now in
    let a = c.args.from in
    let rest = YieldsList-from_slice (drop a line) (c.iter.ensures.rest ∙ take_rest line a) in
    let passing = YieldsList-from_take_while _ p (YieldsList-at c.take_while.ensures.source (YieldsList-from_copied (YieldsList-at c.copied.ensures.source rest))) c.take_while.ensures.closure c.take_while.ensures.done t in
    let n = count_from_yields_List c.take_while.result c.count.result c.count.ensures.ran passing ∙ length-prefix_len p (drop a line) in
    subst (Run p line a) (sym (ap (λ k. a + k) n)) (run_from p line a c.requires.within)
