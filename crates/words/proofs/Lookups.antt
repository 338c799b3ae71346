-- What is known of words by their number.
use Rattle.std.proofs.Common.{◌≡◌, ℕ, ◌+◌, ◌<◌, ◌≤◌, ◌⊎◌, List, [], ◌∷◌, ◌++◌, length, get_or, refl, ap, ◌∙◌, inl, inr, arith}
use Rattle.std.specs.Str.{bytes_eq}
use Rattle.std.proofs.lemmas.Slice.Eq.{bytes_eq-Decides}
use Rattle.std.proofs.lemmas.List.{length_push}
use Rattle.std.proofs.lemmas.List.Folds.{prefix_len-append, position_or_len_push}
use Rattle.std.proofs.lemmas.List.Sums.{prefix_len-le-length, fails_before_first, passes_at_first}
use Rattle.std.proofs.lemmas.Bool.{cases_lt, cond-true, cond-false, lt-ltb, le-ltb, eq-eqb, ne_eqb, both_ways}
use Rattle.words.specs.Words.{index_of, with_word}

-- the number of a word

pub index_most : (ws : List (List ℕ)) (w : List ℕ) → index_of ws w ≤ length ws
index_most ws w = prefix_len-le-length _ ws

-- a known word stands at its number
pub word_at_index : (ws : List (List ℕ)) (w : List ℕ) → index_of ws w < length ws → get_or ws (index_of ws w) [] ≡ w
word_at_index ws w h = (bytes_eq-Decides _ w).0 (passes_at_first (λ v. bytes_eq v w) ws [] h)

-- the words before it are others
pub others_before : (ws : List (List ℕ)) (w : List ℕ) (i : ℕ) → i < index_of ws w → get_or ws i [] ≡ w → ⊥
others_before ws w i h e = both_ways _ (fails_before_first (λ v. bytes_eq v w) ws i [] h) ((bytes_eq-Decides _ w).1 e)

-- every member is known, no later than where it stands
pub member_index : (ws : List (List ℕ)) (i : ℕ) → index_of ws (get_or ws i []) ≤ i
member_index ws i =
    elim (cases_lt i (index_of ws (get_or ws i []))) [
      | inl h ↦ absurd (others_before ws (get_or ws i []) i h refl)
      | inr h ↦ h
    ]

-- words after a known word do not change its number
pub index_append : (ws vs : List (List ℕ)) (w : List ℕ) → index_of ws w < length ws → index_of (ws ++ vs) w ≡ index_of ws w
index_append ws vs w h =
    prefix_len-append _ ws vs ∙ cond-false _ _ _ (ne_eqb (index_of ws w) (length ws) (λ e. omega arith))

-- a new word at the end has the number of words before it
pub index_push : (ws : List (List ℕ)) (w : List ℕ) → length ws ≤ index_of ws w → index_of (ws ++ w ∷ []) w ≡ length ws
index_push ws w h =
    let all : index_of ws w ≡ length ws = omega (arith, index_most ws w) in
    let same = (bytes_eq-Decides w w).1 refl in
    position_or_len_push (λ v. bytes_eq v w) ws w ∙ cond-true _ _ _ (eq-eqb _ _ all) ∙ rw same (omega arith)

-- a word entered unless it is known

pub with_known : (ws : List (List ℕ)) (w : List ℕ) → index_of ws w < length ws → with_word ws w ≡ ws
unfolding with_word
with_known ws w h = cond-true _ _ _ (lt-ltb _ _ h)

pub with_new : (ws : List (List ℕ)) (w : List ℕ) → length ws ≤ index_of ws w → with_word ws w ≡ ws ++ w ∷ []
unfolding with_word
with_new ws w h = cond-false _ _ _ (le-ltb _ _ h)

pub length_with : (ws : List (List ℕ)) (w : List ℕ) → (length (with_word ws w) ≡ length ws) ⊎ (length (with_word ws w) ≡ length ws + 1)
length_with ws w =
    elim (cases_lt (index_of ws w) (length ws)) [
      | inl h ↦ inl (ap length (with_known ws w h))
      | inr h ↦ inr (ap length (with_new ws w h) ∙ length_push ws w)
    ]

-- then it is known, by the number that it had or would have had
pub index_with : (ws : List (List ℕ)) (w : List ℕ) → index_of (with_word ws w) w ≡ index_of ws w
index_with ws w =
    elim (cases_lt (index_of ws w) (length ws)) [
      | inl h ↦ rw (with_known ws w h)
      | inr h ↦ rw (with_new ws w h) (omega (arith, index_push ws w h, index_most ws w))
    ]

pub known_with : (ws : List (List ℕ)) (w : List ℕ) → index_of (with_word ws w) w < length (with_word ws w)
known_with ws w =
    elim (cases_lt (index_of ws w) (length ws)) [
      | inl h ↦ omega (arith, index_with ws w, ap length (with_known ws w h))
      | inr h ↦ omega (arith, index_with ws w, index_most ws w, ap length (with_new ws w h) ∙ length_push ws w)
    ]

-- what was known stays known, by its number
pub index_kept : (ws : List (List ℕ)) (v w : List ℕ) → index_of ws w < length ws → index_of (with_word ws v) w ≡ index_of ws w
index_kept ws v w h =
    elim (cases_lt (index_of ws v) (length ws)) [
      | inl k ↦ rw (with_known ws v k)
      | inr k ↦ rw (with_new ws v k) (index_append ws (v ∷ []) w h)
    ]
