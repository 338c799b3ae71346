-- The length of blocks; that of variables and names is that of words.
--   block_digits   how many digits a block has
use Rattle.std.specs.Prelude.{ℕ}

abbrev pub block_digits : ℕ
block_digits = 32
