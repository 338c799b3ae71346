use Rattle.std.proofs.Common.{rules}
use Rattle.terms.proofs.SetFacts.{InWord, numbers_below}
use Rattle.written.proofs.Spelling.new.Goals as goal

pub returns-clause-numbered : goal.returns-clause-numbered
returns-clause-numbered c =
    let word : InWord c.args.names.members = search rules in
    numbers_below c.args.names.members word
