-- Classes of bytes.
--   capital b    the letters A to Z
--   small b      the letters a to z
--   digit b      the digits 0 to 9
--   hex b        the digits 0 to 9 and a to f
--   in_variable b, in_name b   what may follow in a variable, in a name
--   space b      a space
use Rattle.std.specs.Prelude.{ℕ, Bool, ◌&&◌, ◌||◌, ◌==◌, nat_le}

abbrev pub between : ℕ → ℕ → ℕ → Bool
between low high b = nat_le low b && nat_le b high

abbrev pub capital : ℕ → Bool
capital b = between 65 90 b

abbrev pub small : ℕ → Bool
small b = between 97 122 b

abbrev pub digit : ℕ → Bool
digit b = between 48 57 b

abbrev pub hex : ℕ → Bool
hex b = digit b || between 97 102 b

abbrev pub in_variable : ℕ → Bool
in_variable b = capital b || digit b

abbrev pub in_name : ℕ → Bool
in_name b = small b || digit b

abbrev pub space : ℕ → Bool
space b = b == 32
