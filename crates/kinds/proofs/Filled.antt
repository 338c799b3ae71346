-- What `std::array::from_fn` gives.
use Rattle.std.proofs.Common.{◌≡◌, ℕ, zero, suc, ◌+◌, ◌<◌, ◌≤◌, List, get_or, ◌∙◌, inl, inr, arith}
use Rattle.std.proofs.lemmas.Bool.{cases_eq}
use Rattle.std.specs.Array.{IsFromFnResultFrom, IsFromFnResult}
use denote.Param.Members.{Mut, Called}
use Rattle.kinds.specs.Blocks.{row}
use Rattle.kinds.specs.Rows.{row_from}

-- a callee that stays as it is, and answers h i at each index i, fills the row of h
module _ {F : Type 0} (g : Mut F (ℕ × Unit {0}) ℕ) (f : F) (h : ℕ → ℕ)
    (stays : (i y : ℕ) (q : F) → Called g f (i, tt) y q → q ≡ f) (answers : (i y : ℕ) (q : F) → Called g f (i, tt) y q → y ≡ h i) where
  filled_from : (ys : List ℕ) (n i : ℕ) → IsFromFnResultFrom g f ys i n → (k : ℕ) → i ≤ k → k < i + n → get_or ys k 0 ≡ h k
  filled_from ys zero i r k from to = absurd (omega arith)
  filled_from ys (suc n) i (q, y, is, called, rest) k from to =
      elim (cases_eq k i) [
        | inl e ↦ rw e (is.1 0 ∙ answers i y q called)
        | inr d ↦ filled_from ys n (i + 1) (rw (stays i y q called) at rest) k (omega (arith, d)) (omega arith)
      ]

  pub filled : (ys : List ℕ) (n : ℕ) → IsFromFnResult g f ys n → ys ≡ row h n
  filled ys n r = row_from h n ys r.long (λ i l. filled_from ys n 0 r.each i (omega arith) (omega arith))
