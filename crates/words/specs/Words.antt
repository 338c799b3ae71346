-- Words and dictionaries.
--   index_of ws w       the number of the first of the words ws that is w, from 0; how many there are where none is
--   with_word ws w      ws with w at the end, unless it is there already
--   Pushed N old w r new   w was to be entered at the end of old, which has N places: r says whether it was, and new is left
--   Known               the words known of a text, variables and names apart
--   known t             those that t keeps
--   counts_of k         how many they are
--   cut_back n k        the first n of them, of each sort
use Rattle.std.specs.Prelude.{◌≡◌, ℕ, ◌<◌, cond, List, [], ◌∷◌, ◌++◌, length, take, Ok, Err, Result, nat_lt}
use Rattle.std.specs.List.{position_or_len}
use Rattle.std.specs.Str.{bytes_eq}
use Rattle.words.specs.declared.dictionary.Full.{Full}
use Rattle.words.specs.declared.Words.{Words}
use Rattle.words.specs.declared.Counts.{Counts}

abbrev pub index_of : List (List ℕ) → List ℕ → ℕ
index_of ws w = position_or_len (λ v. bytes_eq v w) ws

unfoldable pub with_word : List (List ℕ) → List ℕ → List (List ℕ)
with_word ws w = cond (nat_lt (index_of ws w) (length ws)) ws (ws ++ w ∷ [])

abbrev pub Pushed : ℕ → List (List ℕ) → List ℕ → Result (Unit {0}) Full → List (List ℕ) → Type 0
Pushed N old w (Ok done) new = (length old < N) × (new ≡ old ++ w ∷ [])
Pushed N old w (Err full) new = (length old ≡ N) × (new ≡ old)

pub record Known : Type 0 where
  pub variables : List (List ℕ)
  pub names : List (List ℕ)

abbrev pub known : Words → Known
known t = record { variables = t.variables; names = t.names }

abbrev pub counts_of : Known → Counts
counts_of k = record { variables = length k.variables; names = length k.names }

abbrev pub cut_back : Counts → Known → Known
cut_back n k = record { variables = take n.variables k.variables; names = take n.names k.names }
