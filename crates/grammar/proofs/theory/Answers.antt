use Rattle.grammar.proofs.Stopping.{accepts, runs, stops, deeper}
use Rattle.grammar.proofs.Faults.{leftmost}
use Rattle.grammar.proofs.Building.{unambiguous}
use Rattle.grammar.proofs.theory.Goals as goal

pub returns : goal.returns
returns c =
    record {
      accepts = accepts;
      runs = runs;
      stops = stops;
      deeper = deeper;
      leftmost = leftmost;
      unambiguous = unambiguous;
    }
