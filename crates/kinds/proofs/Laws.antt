-- What follows from the laws of exclusive or, for constants, terms and normal forms alike.
use Rattle.kinds.specs.Kinds.{Laws}

module _ {A : Type 0} {Same : A → A → Type 0} {unit : A} {op : A → A → A} (laws : Laws Same unit op) where
  infixr 30 ◌▸◌
  open laws use {same_self, same_sym, same_trans as ◌▸◌, join_same}

  pub unit_right : (a : A) → Same (op a unit) a
  unit_right a = laws.comm a unit ▸ laws.unit a

  -- b and c change places between two joins
  pub interchange : (a b c d : A) → Same (op (op a b) (op c d)) (op (op a c) (op b d))
  interchange a b c d =
      laws.assoc a b (op c d)
      ▸ join_same (same_self a) (same_sym (laws.assoc b c d) ▸ join_same (laws.comm b c) (same_self d) ▸ laws.assoc c b d)
      ▸ same_sym (laws.assoc a c (op b d))

  pub swap : (a b c : A) → Same (op a (op b c)) (op b (op a c))
  swap a b c = same_sym (laws.assoc a b c) ▸ join_same (laws.comm a b) (same_self c) ▸ laws.assoc b a c

  pub cancel : (a b : A) → Same (op a (op a b)) b
  cancel a b = same_sym (laws.assoc a a b) ▸ join_same (laws.self a) (same_self b) ▸ laws.unit b

  pub cancel_right : (a b : A) → Same (op (op a b) b) a
  cancel_right a b = laws.assoc a b b ▸ join_same (same_self a) (laws.self b) ▸ unit_right a

  pub same_when_unit : (a b : A) → Same (op a b) unit → Same a b
  same_when_unit a b h = same_sym (cancel_right a b) ▸ join_same h (same_self b) ▸ laws.unit b

  pub unit_when_same : (a b : A) → Same a b → Same (op a b) unit
  unit_when_same a b h = join_same h (same_self b) ▸ laws.self b
