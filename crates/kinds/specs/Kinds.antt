-- Kinds of constant: their operations and the laws that they owe.
--   Operations C            a zero, a join and a test of sameness on constants C
--   Laws Same zero join     the laws of exclusive or, up to Same
--   SameConstant k a b      the kind k takes a and b for the same
--   Lawful k                the operations of k keep the laws, up to its sameness
use Rattle.std.specs.Prelude.{Bool, T}

pub record Operations (C : Type 0) : Type 0 where
  pub zero : C
  pub join : C → C → C
  pub same : C → C → Bool

-- used for constants, for terms and for normal forms alike
pub record Laws {A : Type 0} (Same : A → A → Type 0) (zero : A) (join : A → A → A) : Type 0 where
  pub same_self : (a : A) → Same a a
  pub same_sym : {a b : A} → Same a b → Same b a
  pub same_trans : {a b c : A} → Same a b → Same b c → Same a c
  pub join_same : {a b c d : A} → Same a b → Same c d → Same (join a c) (join b d)
  pub assoc : (a b c : A) → Same (join (join a b) c) (join a (join b c))
  pub comm : (a b : A) → Same (join a b) (join b a)
  pub unit : (a : A) → Same (join zero a) a
  pub self : (a : A) → Same (join a a) zero

abbrev pub SameConstant : {C : Type 0} → Operations C → C → C → Type 0
SameConstant k a b = T (k.same a b)

abbrev pub Lawful : {C : Type 0} → Operations C → Type 0
Lawful k = Laws (SameConstant k) k.zero k.join
