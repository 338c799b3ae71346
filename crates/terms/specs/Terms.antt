-- Terms of exclusive or over a kind's constants, and which of them the axioms make equal.
--   Term C      a constant, a variable, or the join of two terms
--   Equiv k     the smallest equivalence that joining keeps and that has the axioms of exclusive or
--   Within n t  the variables of t are below n
use Rattle.std.specs.Prelude.{ℕ, ◌<◌}
use Rattle.kinds.specs.Kinds.{Operations, SameConstant}

pub data Term (C : Type 0) : Type 0 where
  const : C → Term C
  var : ℕ → Term C
  join : Term C → Term C → Term C

-- the term 0 is the kind's zero
pub data Equiv {C : Type 0} (k : Operations C) : Term C → Term C → Type 0 where
  reflexive : (t : Term C) → Equiv k t t
  symmetric : {s t : Term C} → Equiv k s t → Equiv k t s
  transitive : {s t u : Term C} → Equiv k s t → Equiv k t u → Equiv k s u
  congruent : {s t u v : Term C} → Equiv k s t → Equiv k u v → Equiv k (join s u) (join t v)
  associative : (s t u : Term C) → Equiv k (join (join s t) u) (join s (join t u))
  commutative : (s t : Term C) → Equiv k (join s t) (join t s)
  unital : (t : Term C) → Equiv k (join (const k.zero) t) t
  self_inverse : (t : Term C) → Equiv k (join t t) (const k.zero)
  same_constants : (a b : C) → SameConstant k a b → Equiv k (const a) (const b)
  joined_constants : (a b : C) → Equiv k (join (const a) (const b)) (const (k.join a b))

abbrev pub Within : {C : Type 0} → ℕ → Term C → Type 0
Within n (const c) = Unit {0}
Within n (var v) = v < n
Within n (join s t) = Within n s × Within n t
