-- Joins over picked numbers, in whatever keeps the laws of exclusive or.
use Rattle.std.proofs.Common.{◌≡◌, ℕ, zero, suc, ◌+◌, ◌<◌, ◌≤◌, Bool, true, false, cond, sym, refl, ap₂, inl, inr, true≢false, arith}
use mathlib.Core.Bool.{false≢true}
use Rattle.std.proofs.lemmas.Bool.{cases_eq}
use Rattle.kinds.specs.Kinds.{Laws}
use Rattle.terms.specs.Sets.{differs}
use Rattle.kinds.proofs.Laws.{unit_right, interchange}
use Rattle.terms.specs.Sums.{gather, count}

module _ {A : Type 0} {Same : A → A → Type 0} {unit : A} {op : A → A → A} (laws : Laws Same unit op) where
  infixr 30 ◌▸◌
  open laws use {same_self, same_sym, same_trans as ◌▸◌, join_same}

  pick_same : (b : Bool) {x y : A} → (b ≡ true → Same x y) → Same (cond b x unit) (cond b y unit)
  pick_same true h = h refl
  pick_same false h = same_self unit

  pick_differs : (b c : Bool) (x : A) → Same (cond (differs b c) x unit) (op (cond b x unit) (cond c x unit))
  pick_differs true true x = same_sym (laws.self x)
  pick_differs true false x = same_sym (unit_right laws x)
  pick_differs false true x = same_sym (laws.unit x)
  pick_differs false false x = same_sym (laws.unit unit)

  pick_none : (b : Bool) (x : A) → b ≡ false → Same (cond b x unit) unit
  pick_none true x h = absurd (true≢false h)
  pick_none false x h = same_self unit

  pick_that : (b : Bool) (x : A) → b ≡ true → Same (cond b x unit) x
  pick_that true x h = same_self x
  pick_that false x h = absurd (false≢true h)

  pub gather_same : (g h : ℕ → A) (n : ℕ) (p : ℕ → Bool) → ((u : ℕ) → u < n → p u ≡ true → Same (g u) (h u))
      → Same (gather unit op g n p) (gather unit op h n p)
  unfolding gather
  gather_same g h zero p e = same_self unit
  gather_same g h (suc n) p e =
      join_same (gather_same g h n p (λ u l m. e u (omega arith) m)) (pick_same (p n) (λ m. e n (omega arith) m))

  -- what is picked by exactly one of two tests
  pub gather_differs : (g : ℕ → A) (n : ℕ) (p q r : ℕ → Bool) → ((u : ℕ) → u < n → r u ≡ differs (p u) (q u))
      → Same (gather unit op g n r) (op (gather unit op g n p) (gather unit op g n q))
  unfolding gather
  gather_differs g zero p q r e = same_sym (laws.unit unit)
  gather_differs g (suc n) p q r e =
      join_same (gather_differs g n p q r (λ u l. e u (omega arith))) (rw (e n (omega arith)) (pick_differs (p n) (q n) (g n)))
      ▸ interchange laws _ _ _ _

  pub gather_none : (g : ℕ → A) (n : ℕ) (p : ℕ → Bool) → ((u : ℕ) → u < n → p u ≡ false) → Same (gather unit op g n p) unit
  unfolding gather
  gather_none g zero p e = same_self unit
  gather_none g (suc n) p e =
      join_same (gather_none g n p (λ u l. e u (omega arith))) (pick_none (p n) (g n) (e n (omega arith))) ▸ laws.unit unit

  -- one number is picked and no other
  pub gather_one : (g : ℕ → A) (n v : ℕ) (p : ℕ → Bool) → v < n → p v ≡ true → ((u : ℕ) → u < n → (u ≡ v → ⊥) → p u ≡ false)
      → Same (gather unit op g n p) (g v)
  unfolding gather
  gather_one g zero v p h m d = absurd (omega arith)
  gather_one g (suc n) v p h m d =
      elim (cases_eq v n) [
        | inl e ↦ rw e (join_same (gather_none g n p (λ u l. d u (omega arith) (λ q. omega arith))) (pick_that (p n) (g n) (rw e at m)) ▸ laws.unit (g n))
        | inr o ↦ join_same (gather_one g n v p (omega (arith, o)) m (λ u l. d u (omega arith))) (pick_none (p n) (g n) (d n (omega arith) (λ q. omega (arith, o)))) ▸ unit_right laws (g v)
      ]

  -- the last number, picked or not
  pub gather_on : (g : ℕ → A) (n : ℕ) (p : ℕ → Bool) → p n ≡ true → Same (gather unit op g (suc n) p) (op (gather unit op g n p) (g n))
  unfolding gather
  gather_on g n p m = join_same (same_self _) (pick_that (p n) (g n) m)

  pub gather_off : (g : ℕ → A) (n : ℕ) (p : ℕ → Bool) → p n ≡ false → Same (gather unit op g (suc n) p) (gather unit op g n p)
  unfolding gather
  gather_off g n p m = join_same (same_self _) (pick_none (p n) (g n) m) ▸ unit_right laws _

  pub gather_start : (g : ℕ → A) (p : ℕ → Bool) → Same (gather unit op g 0 p) unit
  unfolding gather
  gather_start g p = same_self unit

  -- what holds of the parts and is kept by joining holds of the whole
  pub gather_keeps : (Q : A → Type 0) → Q unit → ((a b : A) → Q a → Q b → Q (op a b)) → (g : ℕ → A) (n : ℕ) (p : ℕ → Bool)
      → ((u : ℕ) → u < n → p u ≡ true → Q (g u)) → Q (gather unit op g n p)
  unfolding gather
  gather_keeps Q base step g zero p h = base
  gather_keeps Q base step g (suc n) p h =
      step _ _ (gather_keeps Q base step g n p (λ u l m. h u (omega arith) m)) (at (p n) (λ m. h n (omega arith) m))
    where
      at : (b : Bool) → (b ≡ true → Q (g n)) → Q (cond b (g n) unit)
      at true f = f refl
      at false f = base

-- only the tests below n count
pub gather_picks : {A : Type 0} (unit : A) (op : A → A → A) (g : ℕ → A) (n : ℕ) (p q : ℕ → Bool) → ((u : ℕ) → u < n → p u ≡ q u)
    → gather unit op g n p ≡ gather unit op g n q
unfolding gather
gather_picks unit op g zero p q e = refl
gather_picks unit op g (suc n) p q e =
    ap₂ (λ a b. op a (cond b (g n) unit)) (gather_picks unit op g n p q (λ u l. e u (omega arith))) (e n (omega arith))

-- a map between two such that keeps the unit and the joins goes through `gather`
module _ {A B : Type 0} {Same : B → B → Type 0} {unit' : A} {op' : A → A → A} {unit : B} {op : B → B → B} (laws : Laws Same unit op) where
  pub gather_map : (f : A → B) → Same (f unit') unit → ((a b : A) → Same (f (op' a b)) (op (f a) (f b))) → (g : ℕ → A) (n : ℕ) (p : ℕ → Bool)
      → Same (f (gather unit' op' g n p)) (gather unit op (λ v. f (g v)) n p)
  unfolding gather
  gather_map f base step g zero p = base
  gather_map f base step g (suc n) p =
      laws.same_trans (step _ _) (laws.join_same (gather_map f base step g n p) (at (p n)))
    where
      at : (b : Bool) → Same (f (cond b (g n) unit')) (cond b (f (g n)) unit)
      at true = laws.same_self (f (g n))
      at false = base

-- how many are picked

pub count_picks : (n : ℕ) (p q : ℕ → Bool) → ((u : ℕ) → u < n → p u ≡ q u) → count n p ≡ count n q
unfolding count
count_picks n p q e = gather_picks 0 ◌+◌ (λ v. 1) n p q e

pub count_most : (n : ℕ) (p : ℕ → Bool) → count n p ≤ n
unfolding count gather
count_most zero p = omega arith
count_most (suc n) p = go (p n) _ (count_most n p)
  where
    go : (b : Bool) (m : ℕ) → m ≤ n → m + cond b 1 0 ≤ suc n
    go true m l = omega arith
    go false m l = omega arith

pub count_none : (n : ℕ) (p : ℕ → Bool) → ((u : ℕ) → u < n → p u ≡ false) → count n p ≡ 0
unfolding count gather
count_none zero p e = refl
count_none (suc n) p e = ap₂ (λ (m : ℕ) (b : Bool). m + cond b 1 0) (count_none n p (λ u l. e u (omega arith))) (e n (omega arith))

-- q picks v, which p does not, and otherwise as p does
pub count_more : (n : ℕ) (p q : ℕ → Bool) (v : ℕ) → v < n → p v ≡ false → q v ≡ true → ((u : ℕ) → u < n → (u ≡ v → ⊥) → p u ≡ q u)
    → count n q ≡ count n p + 1
unfolding count gather
count_more zero p q v l f t same = absurd (omega arith)
count_more (suc n) p q v l f t same =
    elim (cases_eq v n) [
      | inl e ↦
          let rest = count_picks n p q (λ u b. same u (omega arith) (λ w. omega arith)) in
          rw (rw e at f, rw e at t) (omega (arith, rest))
      | inr d ↦
          let rest = count_more n p q v (omega (arith, d)) f t (λ u b. same u (omega arith)) in
          rw (← (same n (omega arith) (λ w. d (sym w)))) (go (p n) _ _ rest)
    ]
  where
    go : (b : Bool) (x y : ℕ) → y ≡ x + 1 → y + cond b 1 0 ≡ x + cond b 1 0 + 1
    go true x y e = omega arith
    go false x y e = omega arith
