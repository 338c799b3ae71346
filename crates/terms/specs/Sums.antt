-- Joins over numbers that are picked by a test.
--   gather unit op g n p   g 0, g 1, .. below n joined by op, only those that p picks; unit where there is none
--   count n p              how many numbers below n p picks
use Rattle.std.specs.Prelude.{ℕ, zero, suc, ◌+◌, Bool, cond}

unfoldable pub gather : {A : Type 0} → A → (A → A → A) → (ℕ → A) → ℕ → (ℕ → Bool) → A
gather unit op g zero p = unit
gather unit op g (suc n) p = op (gather unit op g n p) (cond (p n) (g n) unit)

unfoldable pub count : ℕ → (ℕ → Bool) → ℕ
count n p = gather 0 ◌+◌ (λ v. 1) n p
