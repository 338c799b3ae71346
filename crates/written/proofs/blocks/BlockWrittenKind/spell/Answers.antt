use Rattle.std.proofs.Common.{◌∙◌, ap₂}
use Rattle.written.proofs.Spellings.{spelling_of, blocks_spelled, as_spelled}
use Rattle.written.proofs.blocks.BlockWrittenKind.spell.Goals as goal

pub returns : goal.returns
returns c =
    let same = c.new.ensures.value ∙ ap₂ spelling_of c.zero.ensures c.unless_zero.ensures.value in
    let all = as_spelled same (blocks_spelled c.args.self.now c.unless_zero.ensures.below) in
    record { spelling = all.spelling; back = all.back; allowed = all.allowed; short = all.short }
