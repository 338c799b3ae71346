-- What is known of the words of a dictionary.
use Rattle.std.proofs.Common.{◌≡◌, ℕ, ◌+◌, ◌<◌, ◌≤◌, get_or, replicate, Bool, cond, not, List, [], ◌∷◌, map, length, Option, refl, sym, subst, ap, ◌∙◌, inl, inr, arith, IfSome, IfNone}
use Rattle.std.specs.List.{prefix_len, position, position_or_len}
use Rattle.std.specs.Str.{bytes_eq}
use Rattle.std.proofs.lemmas.List.{length-map, length-replicate, get_or-map, get_or_past}
use Rattle.std.proofs.lemmas.List.Sums.{prefix_len-le-length}
use Rattle.std.proofs.lemmas.Bool.{cases_lt, cond-true, cond-false, lt-ltb, le-ltb}
use Rattle.copy_vecs.specs.Items.{items}
use Rattle.copy_vecs.specs.declared.CopyVec.{CopyVec}
use Rattle.copy_vecs.proofs.Few.{items_few}
use Rattle.words.specs.Texts.{texts}
use Rattle.words.specs.Words.{index_of}

-- how many from the front pass, where each is made by f
prefix_len-map : {X Y : Type 0} (f : X → Y) (p : Y → Bool) (xs : List X) → prefix_len p (map f xs) ≡ prefix_len (λ x. p (f x)) xs
prefix_len-map f p [] = refl
prefix_len-map f p (x ∷ xs) = ap (λ n. cond (p (f x)) (1 + n) 0) (prefix_len-map f p xs)

-- r is the number of the first of the words that is w, where there is one
pub record FoundAt (ws : List (List ℕ)) (w : List ℕ) (r : Option ℕ) : Type 0 where
  pub first : IfSome r (λ i. i ≡ index_of ws w)
  pub within : IfSome r (λ i. i < length ws)
  pub unknown : IfNone r (index_of ws w ≡ length ws)

module _ {M N : ℕ} (ws : CopyVec (CopyVec ℕ M) N) (w : List ℕ) where
  index_of-texts : index_of (texts ws) w ≡ position_or_len (λ v. bytes_eq (items v) w) (items ws)
  index_of-texts = prefix_len-map items (λ v. not (bytes_eq v w)) (items ws)

  pub found_at : (r : Option ℕ) → r ≡ position (λ v. bytes_eq (items v) w) (items ws) → FoundAt (texts ws) w r
  found_at r e =
      let p = λ (v : CopyVec ℕ M). bytes_eq (items v) w in
      let all = length-map (items ws) items in
      elim (cases_lt (position_or_len p (items ws)) (length (items ws))) [
        | inl h ↦ subst (FoundAt (texts ws) w) (sym (e ∙ cond-true _ _ _ (lt-ltb _ _ h))) (record { first = sym index_of-texts; within = omega (arith, all); unknown = tt })
        | inr h ↦ subst (FoundAt (texts ws) w) (sym (e ∙ cond-false _ _ _ (le-ltb _ _ h))) (record { first = tt; within = tt; unknown = omega (arith, index_of-texts, all, prefix_len-le-length (λ v. not (p v)) (items ws)) })
      ]

module _ {M N : ℕ} (ws : CopyVec (CopyVec ℕ M) N) where
  -- how many words there are at most, and how long they are

  pub length_texts : length (texts ws) ≡ length (items ws)
  length_texts = length-map (items ws) items

  pub texts_within : length (texts ws) ≤ N
  texts_within = omega (arith, length_texts, items_few ws)

  pub texts_short : (i : ℕ) → length (get_or (texts ws) i []) ≤ M
  texts_short i =
      elim (cases_lt i (length (items ws))) [
        | inl h ↦ let none : CopyVec ℕ M = record { places = replicate M 0; len = 0; within = omega arith; whole = length-replicate M 0 } in
            omega (arith, ap length (get_or-map items (items ws) i none [] h), items_few (get_or (items ws) i none))
        | inr h ↦ omega (arith, ap length (get_or_past (texts ws) i [] (omega (arith, length_texts))))
      ]
