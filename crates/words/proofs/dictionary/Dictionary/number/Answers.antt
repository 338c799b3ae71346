use Rattle.std.proofs.Common.{rules, tests}
use Rattle.std.proofs.lemmas.Iterator.{YieldsList-from_slice}
use Rattle.std.proofs.lemmas.Iterator.Search.{position_from_yields_List}
use Rattle.std.specs.Str.{bytes_eq}
use Rattle.copy_vecs.specs.Items.{items}
use Rattle.words.proofs.Dictionaries.{found_at}
use Rattle.words.proofs.dictionary.Dictionary.number.Goals as goal

pub returns : goal.returns
returns g c =
    let ws = c.self.inside.words in
    let w = c.args.word.now in
    let place = position_from_yields_List (λ v. bytes_eq (items v) w) _ _ c.position.result c.position.ensures.ran (YieldsList-from_slice (items ws) cc) (λ x b q k. search (rules, tests)) in
    let found = found_at ws w c.position.result place in
    rw (← c.self.view_is) (record { first = found.first; within = found.within; unknown = found.unknown })
