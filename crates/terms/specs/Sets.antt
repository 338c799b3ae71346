-- Sets of variables: sets of small numbers, as crate `word_sets` keeps them.
--   VarSet  a set of variables, by their numbers
use Rattle.word_sets.specs.declared.WordSet.{WordSet}
unfoldable pub use Rattle.word_sets.specs.Sets.{has, empty, singleton, symmetric_difference, equal}
pub use Rattle.word_sets.specs.Sets.{Highest, differs}

abbrev pub VarSet : Type 0
VarSet = WordSet
