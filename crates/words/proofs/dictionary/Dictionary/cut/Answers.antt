use Rattle.std.proofs.Common.{sym}
use Rattle.std.proofs.lemmas.List.{take-map}
use Rattle.words.proofs.dictionary.Dictionary.cut.Goals as goal

pub returns : goal.returns
returns g c = rw (c.truncate.ensures, ← c.self.view_is) (sym (take-map _ _ _))
