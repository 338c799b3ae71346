-- The pair of two lawful kinds keeps the laws of exclusive or.
use Rattle.kinds.specs.declared.pair.Pair.{Pair}
use Rattle.kinds.specs.Kinds.{Operations, SameConstant, Lawful}
use Rattle.kinds.specs.Pairs.{pairs}
use Rattle.kinds.specs.Tests.{both_pass, first_passes, second_passes}

module _ {A B : Type 0} (k : Operations A) (l : Operations B) where
  halves_same : (x y : Pair A B) → SameConstant k x.first y.first → SameConstant l x.second y.second → SameConstant (pairs k l) x y
  halves_same x y p q = both_pass (k.same x.first y.first) (l.same x.second y.second) p q

  first_same : (x y : Pair A B) → SameConstant (pairs k l) x y → SameConstant k x.first y.first
  first_same x y t = first_passes (k.same x.first y.first) (l.same x.second y.second) t

  second_same : (x y : Pair A B) → SameConstant (pairs k l) x y → SameConstant l x.second y.second
  second_same x y t = second_passes (k.same x.first y.first) (l.same x.second y.second) t

  pub pairs_lawful : Lawful k → Lawful l → Lawful (pairs k l)
  pairs_lawful f s =
      let join = (pairs k l).join in
      let zero = (pairs k l).zero in
      record {
        same_self = λ x. halves_same x x (f.same_self x.first) (s.same_self x.second);
        same_sym = λ {a = x} {b = y} p. halves_same y x (f.same_sym (first_same x y p)) (s.same_sym (second_same x y p));
        same_trans = λ {a = x} {b = y} {c = z} p q. halves_same x z (f.same_trans (first_same x y p) (first_same y z q)) (s.same_trans (second_same x y p) (second_same y z q));
        join_same = λ {a = x} {b = y} {c = z} {d = w} p q. halves_same (join x z) (join y w) (f.join_same (first_same x y p) (first_same z w q)) (s.join_same (second_same x y p) (second_same z w q));
        assoc = λ x y z. halves_same (join (join x y) z) (join x (join y z)) (f.assoc x.first y.first z.first) (s.assoc x.second y.second z.second);
        comm = λ x y. halves_same (join x y) (join y x) (f.comm x.first y.first) (s.comm x.second y.second);
        unit = λ x. halves_same (join zero x) x (f.unit x.first) (s.unit x.second);
        self = λ x. halves_same (join x x) zero (f.self x.first) (s.self x.second);
      }
