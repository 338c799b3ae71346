-- Rows made place by place, and tests over places.
use Rattle.std.specs.Prelude.{◌≡◌, ℕ, ◌<◌, Bool, true, List, length, slice_index}
use Rattle.std.specs.List.{range_with_len}
use Rattle.std.proofs.Common.{ap, sym, ◌∙◌, arith}
use Rattle.std.proofs.lemmas.List.Elements.{All-get_or, All-from_get_or}
use Rattle.std.proofs.lemmas.List.FromFn.{fill_by_all, length-range_with_len, get_or-range_with_len, get_or-map-range_with_len}
use Rattle.std.proofs.lemmas.List.Sums.{AllPass-from_list_all, list_all-from_AllPass}
use Rattle.kinds.specs.Blocks.{row, each}

pub get_or_row : (f : ℕ → ℕ) (n i : ℕ) → i < n → slice_index (row f n) i ≡ f i
unfolding row
get_or_row f n i l = get_or-map-range_with_len f 0 n i i 0 l (omega arith)

pub row_from : (f : ℕ → ℕ) (n : ℕ) (l : List ℕ) → length l ≡ n → ((i : ℕ) → i < n → slice_index l i ≡ f i) → l ≡ row f n
unfolding row
row_from f n l e h = fill_by_all f l n 0 e h

-- the numbers below n, one after another
place : (n i : ℕ) → i < n → slice_index (range_with_len 0 n) i ≡ i
place n i l = omega (arith, get_or-range_with_len 0 n i 0 l)

pub each_in : (p : ℕ → Bool) (n : ℕ) → ((i : ℕ) → i < n → p i ≡ true) → each p n ≡ true
unfolding each
each_in p n h =
    list_all-from_AllPass p (range_with_len 0 n) (All-from_get_or (λ x. p x ≡ true) (range_with_len 0 n) 0 (λ i l.
    let below : i < n = omega (arith, length-range_with_len 0 n) in
    ap p (place n i below) ∙ h i below))

pub each_out : (p : ℕ → Bool) (n : ℕ) → each p n ≡ true → (i : ℕ) → i < n → p i ≡ true
unfolding each
each_out p n t i l =
    ap p (sym (place n i l)) ∙ All-get_or (λ x. p x ≡ true) (range_with_len 0 n) i 0 (omega (arith, length-range_with_len 0 n)) (AllPass-from_list_all p (range_with_len 0 n) t)
