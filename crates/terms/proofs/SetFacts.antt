-- What is known of sets of variables: the interface by which every other proof goes.
use Rattle.std.proofs.Common.{◌≡◌, ℕ, ◌+◌, ◌<◌, true, arith}
use Rattle.terms.specs.Sets.{VarSet, has, singleton, symmetric_difference}
use Rattle.terms.specs.Sums.{count}
use Rattle.terms.proofs.Sums.{count_more}
pub use Rattle.word_sets.proofs.SetFacts.{differs_false, has_empty, has_singleton, singleton_other, singleton_has, has_difference, difference_either, sets_equal, sets_decide, difference_assoc, difference_comm, difference_empty, difference_self, toggled_that, toggled_other, taken_out, some_highest, InWord, numbers_below}

-- a set with a variable less has a member less
pub members_fall : (n : ℕ) (s : VarSet) (v : ℕ) → v < n → has s v ≡ true → count n (has (symmetric_difference s (singleton v))) < count n (has s)
members_fall n s v l h =
    let more : count n (has s) ≡ count n (has (symmetric_difference s (singleton v))) + 1
    = count_more n _ (has s) v l (taken_out s v h) h (λ u b d. toggled_other s v u d) in
    omega arith
