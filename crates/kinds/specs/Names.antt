-- The kind of names.
--   most_names     the most names that there can be; they are numbered from 0
--   has_name s i   name i is in the set s
--   one_name i     the set with name i alone
--   differs b c    exactly one of b and c is true
--   names          zero is the empty set, joining keeps the names in exactly one of two sets, equal sets are the same
use Rattle.std.specs.Prelude.{ℕ, Bool}
use Rattle.word_sets.specs.declared.WordSet.{WordSet}
use Rattle.word_sets.specs.Sets.{has, empty, singleton, symmetric_difference, equal}
pub use Rattle.word_sets.specs.Sets.{differs}
use Rattle.kinds.specs.declared.names.Names.{Names}
use Rattle.kinds.specs.Kinds.{Operations}

abbrev pub most_names : ℕ
most_names = 64

abbrev pub has_name : Names → ℕ → Bool
has_name s i = has s.members i

abbrev pub of_members : WordSet → Names
of_members m = record { members = m }

abbrev pub one_name : ℕ → Names
one_name i = of_members (singleton i)

abbrev pub names : Operations Names
names = record {
  zero = of_members empty;
  join = λ s t. of_members (symmetric_difference s.members t.members);
  same = λ s t. equal s.members t.members;
}
