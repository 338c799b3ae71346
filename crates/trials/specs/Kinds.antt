-- The kinds for trials.
--   single      one constant, the same as itself
--   low_bytes   words under exclusive or, the same where their low bytes are equal
use Rattle.std.specs.Prelude.{◌%◌, ◌^◌, true, ◌==◌, bit_xor}
use Rattle.kinds.specs.Kinds.{Operations}
use Rattle.trials.specs.declared.Single.{Single}
use Rattle.trials.specs.declared.LowByte.{LowByte}

abbrev pub single : Operations Single
single = record {
  zero = record {};
  join = λ x y. x;
  same = λ x y. true;
}

abbrev pub low_bytes : Operations LowByte
low_bytes = record {
  zero = record { word = 0 };
  join = λ x y. record { word = bit_xor x.word y.word };
  same = λ x y. (x.word % 2 ^ 8 == y.word % 2 ^ 8);
}
