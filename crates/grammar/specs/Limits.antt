-- The bound of the grammar.
--   most_brackets   how deep the brackets of an equation may nest
use Rattle.std.specs.Prelude.{ℕ}

abbrev pub most_brackets : ℕ
most_brackets = 32
