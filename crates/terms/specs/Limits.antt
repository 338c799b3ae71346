-- The limit of variables, stated once.
--   most_variables   the most variables that there can be; they are numbered from 0
--   InRange n        n can be a number of variables
use Rattle.std.specs.Prelude.{ℕ, ◌≤◌}

abbrev pub most_variables : ℕ
most_variables = 64

abbrev pub InRange : ℕ → Type 0
InRange n = (1 ≤ n) × (n ≤ most_variables)
