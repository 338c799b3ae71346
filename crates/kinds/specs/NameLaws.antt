-- Names keep the laws of exclusive or.
use Rattle.std.proofs.Common.{sym, refl, ap₂, ◌∙◌}
use Rattle.word_sets.specs.Sets.{symmetric_difference}
use Rattle.word_sets.proofs.SetFacts.{equal_passes, passes_equal, difference_assoc, difference_comm, difference_empty, difference_self}
use Rattle.kinds.specs.Kinds.{Lawful}
use Rattle.kinds.specs.Names.{names}

pub names_lawful : Lawful names
names_lawful = record {
  same_self = λ a. equal_passes _ _ refl;
  same_sym = λ {a} {b} p. equal_passes _ _ (sym (passes_equal a.members b.members p));
  same_trans = λ {a} {b} {c} p q. equal_passes _ _ (passes_equal a.members b.members p ∙ passes_equal b.members c.members q);
  join_same = λ {a} {b} {c} {d} p q. equal_passes _ _ (ap₂ symmetric_difference (passes_equal a.members b.members p) (passes_equal c.members d.members q));
  assoc = λ a b c. equal_passes _ _ (difference_assoc a.members b.members c.members);
  comm = λ a b. equal_passes _ _ (difference_comm a.members b.members);
  unit = λ a. equal_passes _ _ (difference_empty a.members);
  self = λ a. equal_passes _ _ (difference_self a.members);
}
