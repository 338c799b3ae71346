-- What is known of sets of small numbers: the interface by which every other proof goes.
use Rattle.std.proofs.Common.{◌≡◌, ℕ, zero, suc, ◌+◌, ◌-◌, ◌*◌, ◌/◌, ◌%◌, ◌^◌, ◌<◌, ◌≤◌, Bool, true, false, not, T, ◌⊎◌, eqb, sym, refl, ap, ◌∙◌, inl, inr, arith}
use Rattle.std.proofs.Math.Facts.{eqb_yes, yes_eqb}
use Rattle.std.proofs.lemmas.Bool.{cases_eq, cases_lt, cases_Bool, both_ways}
use lib.Count.{count_leading_zeros}
use Rattle.std.proofs.lemmas.Nat.{le-div, div_below, pow_pos, leading_top}
use Rattle.std.proofs.lemmas.Nat.Bits.{bit_at-zero, bit_at-pow_same, bit_at-pow_other, bit_at_xor, bit_at_above, same_from_bits}
use Rattle.std.specs.Int.{bit_at}
use Rattle.word_sets.specs.declared.WordSet.{WordSet}
use Rattle.word_sets.specs.Sets.{capacity, has, empty, singleton, symmetric_difference, equal, Highest, differs}

-- exactly one of two

pub differs_false : (b : Bool) → differs b false ≡ b
differs_false true = refl
differs_false false = refl

pub differs_self : (b : Bool) → differs b b ≡ false
differs_self true = refl
differs_self false = refl

pub differs_comm : (b c : Bool) → differs b c ≡ differs c b
differs_comm true true = refl
differs_comm true false = refl
differs_comm false true = refl
differs_comm false false = refl

pub differs_assoc : (b c d : Bool) → differs (differs b c) d ≡ differs b (differs c d)
differs_assoc true true true = refl
differs_assoc true true false = refl
differs_assoc true false d = refl
differs_assoc false c d = refl

-- these know how a set is kept

of_bits : ℕ → WordSet
of_bits b = record { bits = b }

abbrev is_one : ℕ → Bool
is_one d = eqb d 1

pub has_empty : (v : ℕ) → has empty v ≡ false
unfolding has empty
has_empty v = ap is_one (bit_at-zero v)

pub has_singleton : (v : ℕ) → has (singleton v) v ≡ true
unfolding has singleton
has_singleton v = ap is_one (bit_at-pow_same v)

pub singleton_other : (v w : ℕ) → (v ≡ w → ⊥) → has (singleton v) w ≡ false
unfolding has singleton
singleton_other v w d = ap is_one (bit_at-pow_other v w (λ e. d (sym e)))

pub has_difference : (s t : WordSet) (v : ℕ) → has (symmetric_difference s t) v ≡ differs (has s v) (has t v)
unfolding has symmetric_difference
has_difference s t v = ap is_one (bit_at_xor s.bits t.bits v) ∙ odd_sum (bit_at s.bits v) (bit_at t.bits v) (omega arith) (omega arith)
  where
    odd_sum : (d e : ℕ) → d < 2 → e < 2 → is_one ((d + e) % 2) ≡ differs (is_one d) (is_one e)
    odd_sum d e h l = grind arith

-- sets with the same numbers are equal
pub sets_equal : (s t : WordSet) → ((v : ℕ) → has s v ≡ has t v) → s ≡ t
unfolding has of_bits
sets_equal s t e = ap of_bits (same_from_bits s.bits t.bits (λ v. same_digit _ _ (omega arith) (omega arith) (e v)))
  where
    same_digit : (d e : ℕ) → d < 2 → e < 2 → is_one d ≡ is_one e → d ≡ e
    same_digit d e h l p = grind arith

pub equal_passes : (s t : WordSet) → s ≡ t → T (equal s t)
unfolding equal
equal_passes s t e = yes_eqb (ap (λ (u : WordSet). u.bits) e)

pub passes_equal : (s t : WordSet) → T (equal s t) → s ≡ t
unfolding equal of_bits
passes_equal s t h = ap of_bits (eqb_yes h)

pub sets_decide : (s t : WordSet) → (s ≡ t) ⊎ (s ≡ t → ⊥)
unfolding of_bits
sets_decide s t =
    elim (cases_eq s.bits t.bits) [
      | inl e ↦ inl (ap of_bits e)
      | inr d ↦ inr (λ e. d (ap (λ (u : WordSet). u.bits) e))
    ]

-- what the type of a set says of it: it is one word
abbrev pub InWord : WordSet → Type 0
InWord s = s.bits < 2 ^ 64

pub none_above : (s : WordSet) → InWord s → (v : ℕ) → capacity ≤ v → has s v ≡ false
unfolding has
none_above s word v h = ap is_one (bit_at_above s.bits 64 v word h)

pub numbers_below : (s : WordSet) → InWord s → (v : ℕ) → has s v ≡ true → v < capacity
numbers_below s word v m = elim (cases_lt v capacity) [ inl l ↦ l | inr l ↦ absurd (both_ways _ (none_above s word v l) m) ]

-- the highest digit of the word tells the highest number
pub top_there : (s : WordSet) (v : ℕ) → 2 ^ v ≤ s.bits → s.bits < 2 * 2 ^ v → has s v ≡ true
unfolding has
top_there s v low high =
    let one : s.bits / 2 ^ v ≡ 1 = omega (arith, div_below s.bits (2 ^ v) 2 (pow_pos v) high, le-div 1 s.bits (2 ^ v) (pow_pos v) (omega arith)) in
    ap (λ x. is_one (x % 2)) one

pub top_most : (s : WordSet) (v u : ℕ) → s.bits < 2 * 2 ^ v → has s u ≡ true → u ≤ v
unfolding has
top_most s v u high m =
    let next : s.bits < 2 ^ suc v = omega arith in
    elim (cases_lt v u) [
      | inl l ↦ absurd (both_ways (has s u) (ap is_one (bit_at_above s.bits (suc v) u next l)) m)
      | inr l ↦ l
    ]

-- in one word, the leading zeros tell the highest number
pub leading_there : (s : WordSet) → 0 < s.bits → s.bits < 2 ^ 64 → has s (63 - count_leading_zeros 64 s.bits) ≡ true
leading_there s some word =
    let top = leading_top 64 s.bits some word in
    let at : 63 - count_leading_zeros 64 s.bits ≡ top.0 = omega arith in
    rw at (top_there s top.0 top.2 (omega arith))

pub leading_most : (s : WordSet) (u : ℕ) → 0 < s.bits → s.bits < 2 ^ 64 → has s u ≡ true → u ≤ 63 - count_leading_zeros 64 s.bits
leading_most s u some word m =
    let top = leading_top 64 s.bits some word in
    let at : 63 - count_leading_zeros 64 s.bits ≡ top.0 = omega arith in
    rw at (top_most s top.0 u (omega arith) m)

-- and these do not

pub difference_either : (s t : WordSet) (v : ℕ) → has (symmetric_difference s t) v ≡ true → (has s v ≡ true) ⊎ (has t v ≡ true)
difference_either s t v h = go (has s v) (has t v) (sym (has_difference s t v) ∙ h)
  where
    go : (b c : Bool) → differs b c ≡ true → (b ≡ true) ⊎ (c ≡ true)
    go true c h = inl refl
    go false c h = inr h

pub singleton_has : (v w : ℕ) → has (singleton v) w ≡ true → v ≡ w
singleton_has v w h = elim (cases_eq v w) [ inl e ↦ e | inr d ↦ absurd (both_ways _ (singleton_other v w d) h) ]

pub difference_assoc : (s t u : WordSet) → symmetric_difference (symmetric_difference s t) u ≡ symmetric_difference s (symmetric_difference t u)
difference_assoc s t u =
    sets_equal _ _ (λ v.
    has_difference (symmetric_difference s t) u v
    ∙ ap (λ b. differs b (has u v)) (has_difference s t v)
    ∙ differs_assoc (has s v) (has t v) (has u v)
    ∙ sym (has_difference s (symmetric_difference t u) v ∙ ap (differs (has s v)) (has_difference t u v)))

pub difference_comm : (s t : WordSet) → symmetric_difference s t ≡ symmetric_difference t s
difference_comm s t = sets_equal _ _ (λ v. has_difference s t v ∙ differs_comm (has s v) (has t v) ∙ sym (has_difference t s v))

pub difference_empty : (s : WordSet) → symmetric_difference empty s ≡ s
difference_empty s = sets_equal _ _ (λ v. has_difference empty s v ∙ ap (λ b. differs b (has s v)) (has_empty v))

pub difference_self : (s : WordSet) → symmetric_difference s s ≡ empty
difference_self s = sets_equal _ _ (λ v. has_difference s s v ∙ differs_self (has s v) ∙ sym (has_empty v))

-- the symmetric difference with one number puts it in or takes it out, and no other

pub toggled_that : (s : WordSet) (v : ℕ) → has (symmetric_difference s (singleton v)) v ≡ not (has s v)
toggled_that s v = has_difference s (singleton v) v ∙ ap (differs (has s v)) (has_singleton v) ∙ differs_comm (has s v) true

pub toggled_other : (s : WordSet) (v u : ℕ) → (u ≡ v → ⊥) → has (symmetric_difference s (singleton v)) u ≡ has s u
toggled_other s v u d =
    has_difference s (singleton v) u ∙ ap (differs (has s u)) (singleton_other v u (λ e. d (sym e))) ∙ differs_false (has s u)

pub taken_out : (s : WordSet) (v : ℕ) → has s v ≡ true → has (symmetric_difference s (singleton v)) v ≡ false
taken_out s v h = toggled_that s v ∙ ap not h

-- a set of numbers below n that is not empty has a highest
pub some_highest : (n : ℕ) (s : WordSet) → ((v : ℕ) → has s v ≡ true → v < n) → (s ≡ empty) ⊎ ((v : ℕ) × Highest s v)
some_highest zero s low =
    inl (sets_equal s empty (λ v. elim (cases_Bool (has s v)) [ inl m ↦ absurd (omega (arith, low v m)) | inr m ↦ m ∙ sym (has_empty v) ]))
some_highest (suc n) s low =
    elim (cases_Bool (has s n)) [
      | inl m ↦ inr (n, (m, λ u h. omega (arith, low u h)))
      | inr m ↦ some_highest n s (λ v h. elim (cases_eq v n) [
        | inl e ↦ absurd (both_ways (has s v) (rw e m) h)
        | inr d ↦ omega (arith, low v h, d)
      ])
    ]
