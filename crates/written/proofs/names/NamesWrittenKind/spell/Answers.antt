use Rattle.written.proofs.Spellings.{names_spelled, as_spelled}
use Rattle.written.proofs.names.NamesWrittenKind.spell.Goals as goal

pub returns : goal.returns
returns c =
    let all = as_spelled c.new.ensures.value (names_spelled c.args.self.now c.new.ensures.numbered) in
    record { spelling = all.spelling; back = all.back; allowed = all.allowed; short = all.short }
