use Rattle.std.proofs.Common.{ap, rules}
use Rattle.kinds.specs.Blocks.{of_bytes}
use Rattle.kinds.proofs.Filled.{filled}
use Rattle.written.proofs.hex.block_of.Goals as goal

pub returns : goal.returns
returns c = ap of_bytes (filled _ _ _ (λ i y q k. search rules) (λ i y q k. search rules) _ _ c.from_fn.ensures.items)
