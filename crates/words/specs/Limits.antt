-- The limits of words, stated once.
--   longest_word     the most bytes of a word
--   variable_words   the most words for variables
--   name_words       the most words for names
use Rattle.std.specs.Prelude.{ℕ}

abbrev pub longest_word : ℕ
longest_word = 8

abbrev pub variable_words : ℕ
variable_words = 64

abbrev pub name_words : ℕ
name_words = 64
