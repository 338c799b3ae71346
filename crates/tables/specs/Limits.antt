-- The limit of tables, stated once.
--   most_nodes   the most nodes of a table
use Rattle.std.specs.Prelude.{ℕ}

abbrev pub most_nodes : ℕ
most_nodes = 4096
