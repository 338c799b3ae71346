-- A small table of samples, over names: terms with the normal forms that they have.
--   a, b          the names 0 and 1 as terms
--   x0            the variable 0
--   zero          the term 0
--   Sample        a term and the normal form that is expected of it
--   samples       the table
--   Holds         the term has that normal form
use Rattle.std.specs.Prelude.{◌≡◌, List, [], ◌∷◌}
use Rattle.kinds.specs.declared.names.Names.{Names}
use Rattle.kinds.specs.Names.{names, one_name}
use Rattle.terms.specs.declared.normal.Normal.{Normal}
use Rattle.terms.specs.Terms.{Term, const, var, join}
use Rattle.terms.specs.NormalForms.{of_constant, zero_form, normal}

abbrev pub a : Term Names
a = const (one_name 0)

abbrev pub b : Term Names
b = const (one_name 1)

abbrev pub x0 : Term Names
x0 = var 0

abbrev pub zero : Term Names
zero = const names.zero

pub record Sample : Type 0 where
  pub term : Term Names
  pub expected : Normal Names

abbrev pub Holds : Sample → Type 0
Holds s = normal names s.term ≡ s.expected

-- a ^ (X0 ^ (b ^ a)) ^ X0 has the normal form b, and 0 ^ 0 the empty set and zero
abbrev pub samples : List Sample
samples =
    record { term = join (join a (join x0 (join b a))) x0; expected = of_constant (one_name 1) }
    ∷ record { term = join zero zero; expected = zero_form names }
    ∷ []
