use Rattle.std.proofs.Common.{ap, ◌∙◌}
use Rattle.written.proofs.Spellings.{spelling_of, pair_spelled, as_spelled}
use Rattle.written.proofs.pair.PairNamesBlockWrittenKind.spell.Goals as goal

pub returns : goal.returns
returns c =
    let x = c.args.self.now in
    let same = c.new.ensures.value ∙ ap (spelling_of x.first) c.unless_zero.ensures.value in
    let all = as_spelled same (pair_spelled x c.new.ensures.numbered c.unless_zero.ensures.below) in
    record { spelling = all.spelling; back = all.back; allowed = all.allowed; short = all.short }
