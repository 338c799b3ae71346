-- The kinds for trials keep the laws of exclusive or.
use Rattle.std.specs.Prelude.{ℕ, ◌%◌, bit_xor}
use Rattle.std.proofs.Common.{sym, ap, ap₂, ◌∙◌, eqb→eq}
use Rattle.std.proofs.Math.Dec.{eqb_refl}
use Rattle.std.proofs.Math.Facts.{yes_eqb}
use Rattle.std.proofs.lemmas.Nat.{xor_mod, xor_comm}
use Rattle.std.specs.Int.Bits.{xor_assoc, xor_self}
use Rattle.kinds.specs.Kinds.{Lawful}
use Rattle.trials.specs.declared.LowByte.{LowByte}
use Rattle.trials.specs.Kinds.{single, low_bytes}

pub single_lawful : Lawful single
single_lawful = record {
  same_self = λ a. tt;
  same_sym = λ p. tt;
  same_trans = λ p q. tt;
  join_same = λ p q. tt;
  assoc = λ a b c. tt;
  comm = λ a b. tt;
  unit = λ a. tt;
  self = λ a. tt;
}

abbrev low : LowByte → ℕ
low x = x.word % 256

pub low_bytes_lawful : Lawful low_bytes
low_bytes_lawful = record {
  same_self = λ a. eqb_refl (low a);
  same_sym = λ {a} {b} p. yes_eqb (sym (eqb→eq (low a) (low b) p));
  same_trans = λ {a} {b} {c} p q. yes_eqb (eqb→eq (low a) (low b) p ∙ eqb→eq (low b) (low c) q);
  join_same = λ {a} {b} {c} {d} p q. yes_eqb (
      xor_mod a.word c.word 8
      ∙ ap₂ bit_xor (eqb→eq (low a) (low b) p) (eqb→eq (low c) (low d) q)
      ∙ sym (xor_mod b.word d.word 8));
  assoc = λ a b c. yes_eqb (ap (λ x. x % 256) (xor_assoc a.word b.word c.word));
  comm = λ a b. yes_eqb (ap (λ x. x % 256) (xor_comm a.word b.word));
  unit = λ a. eqb_refl (low a);
  self = λ a. yes_eqb (ap (λ x. x % 256) (xor_self a.word));
}
