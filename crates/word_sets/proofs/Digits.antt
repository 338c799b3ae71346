-- How large a number is, by its binary digits.
use Rattle.std.proofs.Common.{◌≡◌, ℕ, zero, suc, ◌/◌, ◌^◌, ◌<◌, ◌==◌, true, sym, refl, ap, ◌∙◌, arith}
use Rattle.std.proofs.lemmas.Nat.Bits.{bit_at-suc, bit_at-zero, bit_at-lt, same_from_bits}
use Rattle.std.specs.Int.{bit_at}

pub below_power : (n : ℕ) → n < 2 ^ n
below_power zero = omega arith
below_power (suc n) = omega (arith, below_power n)

-- below 2 ^ n, where every digit that is one is below n
pub digits_below : (n a : ℕ) → ((v : ℕ) → (bit_at a v == 1) ≡ true → v < n) → a < 2 ^ n
digits_below zero a h =
    let zeroes : a ≡ 0 = same_from_bits a 0 (λ v. unset v (bit_at a v) (bit_at-lt a v) (h v) ∙ sym (bit_at-zero v)) in
    omega arith
  where
    unset : (v d : ℕ) → d < 2 → ((d == 1) ≡ true → v < 0) → d ≡ 0
    unset v zero l f = refl
    unset v (suc zero) l f = absurd (omega (arith, f refl))
    unset v (suc (suc d)) l f = absurd (omega arith)
digits_below (suc n) a h =
    let half : a / 2 < 2 ^ n = digits_below n (a / 2) (λ v m. omega (arith, h (suc v) (ap (λ d. d == 1) (bit_at-suc a v) ∙ m))) in
    omega arith
