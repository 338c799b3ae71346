-- Verdicts in words.
--   word_of w   the word that the verdict w is told by
use Rattle.std.specs.Prelude.{ℕ, List, codes}
use Rattle.steps.specs.declared.verdict.Verdict.{Verdict}
use Rattle.steps.specs.declared.verdict.Verdict.TheVariants.{Forced, Never, Open}

abbrev pub word_of : Verdict → List ℕ
word_of Forced = codes "forced"
word_of Never = codes "never"
word_of Open = codes "open"
