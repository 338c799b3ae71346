-- The limits of a session, each stated once.
--   most_entries   the most ledger entries that are used
--   most_marks     the most marks that are held
use Rattle.std.specs.Prelude.{ℕ}

abbrev pub most_entries : ℕ
most_entries = 1024

abbrev pub most_marks : ℕ
most_marks = 32
