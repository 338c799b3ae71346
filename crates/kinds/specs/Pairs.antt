-- The pair of any two kinds.
--   pairs a b   zero, joining and sameness work side by side
use Rattle.std.specs.Prelude.{◌&&◌}
use Rattle.kinds.specs.declared.pair.Pair.{Pair}
use Rattle.kinds.specs.Kinds.{Operations}

abbrev pub pairs : {A B : Type 0} → Operations A → Operations B → Operations (Pair A B)
pairs a b = record {
  zero = record { first = a.zero; second = b.zero };
  join = λ x y. record { first = a.join x.first y.first; second = b.join x.second y.second };
  same = λ x y. a.same x.first y.first && b.same x.second y.second;
}
