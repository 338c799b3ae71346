-- Counting the uses of nodes modulo two, from the highest down.
use Rattle.std.proofs.Common.{◌≡◌, ℕ, zero, suc, ◌<◌, ◌≤◌, true, not, eqb, List, length, get_or, set, sym, refl, ap, ◌∙◌, inl, inr, arith, length-set}
use lib.Bits.{bit_xor, xor_lt}
use Rattle.std.proofs.lemmas.List.{get_or-set_same, get_or-set_other}
use Rattle.std.proofs.lemmas.Bool.{cases_eq, eq-eqb, ne_eqb}
use Rattle.kinds.specs.Kinds.{Operations, Laws, Lawful}
use Rattle.terms.specs.Sets.{differs}
use Rattle.terms.proofs.SetFacts.{differs_false}
use Rattle.kinds.proofs.Laws.{unit_right}
use Rattle.terms.specs.declared.normal.Normal.{Normal}
use Rattle.terms.specs.Sums.{gather}
use Rattle.terms.specs.NormalForms.{SameNormal, zero_form, joined}
use Rattle.tables.specs.Calls.{Cleared, byte_set, flipped}
use Rattle.terms.proofs.Sums.{gather_differs, gather_one, gather_none, gather_on, gather_off, gather_picks, gather_start}
use Rattle.terms.proofs.NormalForms.{normal_laws}

-- no byte of the first n is above 1
abbrev pub Bits : ℕ → List ℕ → Type 0
Bits n w = (j : ℕ) → j < n → get_or w j 0 ≤ 1

-- the first n bytes are zero
abbrev pub Zero : ℕ → List ℕ → Type 0
Zero n w = (j : ℕ) → j < n → get_or w j 0 ≡ 0

pub zero_bits : (n : ℕ) (w : List ℕ) → Zero n w → Bits n w
zero_bits n w h j l = let z = h j l in omega arith

set_bits : (n : ℕ) (w : List ℕ) (a b : ℕ) → a < length w → b ≤ 1 → Bits n w → Bits n (set w a b)
set_bits n w a b l s h j below =
    elim (cases_eq j a) [
      | inl e ↦ (let y = get_or-set_same w a b 0 l in rw (e, y) s)
      | inr d ↦ (let y = get_or-set_other w a j b 0 d in rw y (h j below))
    ]

pub flipped_bits : (n : ℕ) (w : List ℕ) (a : ℕ) → a < n → n ≤ length w → Bits n w → Bits n (flipped w a)
flipped_bits n w a l room h =
    let x = xor_lt 1 (get_or w a 0) 1 (omega (arith, h a l)) (omega arith) in
    set_bits n w a _ (omega arith) (omega arith) h

-- a byte that is flipped is set where it was not, and the others stay
flipped_set : (n : ℕ) (w : List ℕ) (a : ℕ) → a < n → n ≤ length w → Bits n w
    → (u : ℕ) → byte_set (flipped w a) u ≡ differs (byte_set w u) (eqb u a)
flipped_set n w a below room h u =
    elim (cases_eq u a) [
      | inl e ↦ rw e (ap (λ b. not (eqb b 0)) (get_or-set_same w a (bit_xor (get_or w a 0) 1) 0 (omega arith)) ∙ turn (get_or w a 0) (h a below) ∙ ap (differs (byte_set w a)) (sym (eq-eqb a a refl)))
      | inr d ↦ ap (λ b. not (eqb b 0)) (get_or-set_other w a u (bit_xor (get_or w a 0) 1) 0 d) ∙ sym (differs_false (byte_set w u)) ∙ ap (differs (byte_set w u)) (sym (ne_eqb u a d))
    ]
  where
    turn : (b : ℕ) → b ≤ 1 → not (eqb (bit_xor b 1) 0) ≡ differs (not (eqb b 0)) true
    turn zero l = refl
    turn (suc zero) l = refl
    turn (suc (suc b)) l = absurd (omega arith)

module _ {C : Type 0} (k : Operations C) (lawful : Lawful k) (val : ℕ → Normal C) (n : ℕ) where
  infixr 30 ◌▸◌
  open normal_laws lawful use {same_self, same_sym, same_trans as ◌▸◌, join_same}

  abbrev normals : Laws (SameNormal k) (zero_form k) (joined k)
  normals = normal_laws lawful

  -- the join of what the places below i whose byte is set come to
  abbrev pub sum_below : List ℕ → ℕ → Normal C
  sum_below w i = gather (zero_form k) (joined k) val i (byte_set w)

  pub sum_flipped : (w : List ℕ) (a i : ℕ) → a < i → i ≤ n → n ≤ length w → Bits n w → SameNormal k (sum_below (flipped w a) i) (joined k (sum_below w i) (val a))
  sum_flipped w a i lt le room h =
      gather_differs normals val i (byte_set w) (λ u. eqb u a) _ (λ u l. flipped_set n w a (omega arith) room h u)
      ▸ join_same (same_self _) (gather_one normals val i a _ lt (eq-eqb a a refl) (λ u l d. ne_eqb u a d))

  pub sum_zero : (w : List ℕ) (i : ℕ) → i ≤ n → Zero n w → SameNormal k (sum_below w i) (zero_form k)
  sum_zero w i le z = gather_none normals val i _ (λ u l. ap (λ b. not (eqb b 0)) (z u (omega arith)))

  -- from bytes that are zero: one side, and two
  pub one_side : (w : List ℕ) (a : ℕ) → a < n → n ≤ length w → Zero n w → SameNormal k (sum_below (flipped w a) n) (val a)
  one_side w a l room z = sum_flipped w a n l (omega arith) room (zero_bits n w z) ▸ join_same (sum_zero w n (omega arith) z) (same_self _) ▸ normals.unit _

  pub two_sides : (w : List ℕ) (a b : ℕ) → a < n → b < n → n ≤ length w → Zero n w
      → SameNormal k (sum_below (flipped (flipped w a) b) n) (joined k (val a) (val b))
  two_sides w a b la lb room z =
      let more : n ≤ length (flipped w a) = omega (arith, length-set w a (bit_xor (get_or w a 0) 1)) in
      sum_flipped (flipped w a) b n lb (omega arith) more (flipped_bits n w a la room (zero_bits n w z))
      ▸ join_same (one_side w a la room z) (same_self _)

  -- from `start`: the places from i on are done, and what is left below i adds up to the same
  pub record Counted (start : List ℕ) (sum : Normal C) (work : List ℕ) (i : ℕ) : Type 0 where
    pub long : length work ≡ length start
    pub done : (j : ℕ) → i ≤ j → j < n → get_or work j 0 ≡ 0
    pub bits : Bits n work
    pub beyond : (j : ℕ) → n ≤ j → get_or work j 0 ≡ get_or start j 0
    pub sums : SameNormal k (joined k sum (sum_below work i)) (sum_below start n)

  module _ (start : List ℕ) (room : n ≤ length start) where
    pub begun : (s : Normal C) → s ≡ zero_form k → Bits n start → Counted start s start n
    begun s e b = record {
      long = refl;
      done = λ j l m. omega arith;
      bits = b;
      beyond = λ j l. refl;
      sums = rw e (normals.unit _);
    }

    module _ (s : Normal C) (work : List ℕ) (i m : ℕ) (next : i ≡ suc m) (below : m < n) (inv : Counted start s work i) where
      h : Counted start s work (suc m)
      h = rw next at inv

      pub skipped : get_or work m 0 ≡ 0 → Counted start s work m
      skipped z = record {
        long = h.long;
        done = λ j a b. elim (cases_eq j m) [ inl e ↦ rw e z | inr d ↦ h.done j (omega (arith, d)) b ];
        bits = h.bits;
        beyond = h.beyond;
        sums = join_same (same_self s) (same_sym (gather_off normals val m _ (ap (λ b. not (eqb b 0)) z))) ▸ h.sums;
      }

      module _ (set_there : get_or work m 0 ≡ 0 → ⊥) where
        w0 : List ℕ
        w0 = set work m 0

        w0_done : (j : ℕ) → m ≤ j → j < n → get_or w0 j 0 ≡ 0
        unfolding w0
        w0_done j a b =
            elim (cases_eq j m) [
              | inl e ↦ rw e (get_or-set_same work m 0 0 (omega (arith, h.long)))
              | inr d ↦ get_or-set_other work m j 0 0 d ∙ h.done j (omega (arith, d)) b
            ]

        w0_long : length w0 ≡ length start
        unfolding w0
        w0_long = length-set work m 0 ∙ h.long

        w0_bits : Bits n w0
        unfolding w0
        w0_bits = set_bits n work m 0 (omega (arith, h.long)) (omega arith) h.bits

        w0_beyond : (j : ℕ) → n ≤ j → get_or w0 j 0 ≡ get_or start j 0
        unfolding w0
        w0_beyond j a = get_or-set_other work m j 0 0 (λ x. omega arith) ∙ h.beyond j a

        -- below m nothing has changed
        w0_sum : sum_below w0 m ≡ sum_below work m
        unfolding w0
        w0_sum = gather_picks (zero_form k) (joined k) val m _ _ (λ u l. ap (λ b. not (eqb b 0)) (get_or-set_other work m u 0 0 (λ x. omega arith)))

        whole : SameNormal k (joined k s (joined k (sum_below w0 m) (val m))) (sum_below start n)
        whole =
            join_same (same_self s) (rw w0_sum (same_sym (gather_on normals val m _ (ap not (ne_eqb (get_or work m 0) 0 set_there)))))
            ▸ h.sums

        -- a constant or a variable goes into the sum
        pub took : (x : Normal C) → val m ≡ x → Counted start (joined k s x) (set work m 0) m
        unfolding w0
        took x e = record {
          long = w0_long;
          done = w0_done;
          bits = w0_bits;
          beyond = w0_beyond;
          sums = normals.assoc s x _ ▸ join_same (same_self s) (normals.comm x _) ▸ rw e at whole;
        }

        -- a join passes its byte on to its operands
        pub passed : (a b : ℕ) → a < m → b < m → val m ≡ joined k (val a) (val b) → Counted start s (flipped (flipped (set work m 0) a) b) m
        unfolding w0
        passed a b la lb e =
            let w1 = flipped w0 a in
            let l1 : length w1 ≡ length start = length-set w0 a (bit_xor (get_or w0 a 0) 1) ∙ w0_long in
            let b1 : Bits n w1 = flipped_bits n w0 a (omega arith) (omega (arith, w0_long)) w0_bits in
            record {
              long = length-set w1 b (bit_xor (get_or w1 b 0) 1) ∙ l1;
              done = λ j x y. get_or-set_other w1 b j _ 0 (λ z. omega arith) ∙ get_or-set_other w0 a j _ 0 (λ z. omega arith) ∙ w0_done j x y;
              bits = flipped_bits n w1 b (omega arith) (omega arith) b1;
              beyond = λ j x. get_or-set_other w1 b j _ 0 (λ z. omega arith) ∙ get_or-set_other w0 a j _ 0 (λ z. omega arith) ∙ w0_beyond j x;
              sums =
                  join_same (same_self s) (
                  sum_flipped w1 b m lb (omega arith) (omega arith) b1
                  ▸ join_same (sum_flipped w0 a m la (omega arith) (omega (arith, w0_long)) w0_bits) (same_self _)
                  ▸ normals.assoc _ (val a) (val b))
                  ▸ rw e at whole;
            }

    pub ended : (s : Normal C) (work : List ℕ) (i : ℕ) → i ≡ 0 → Counted start s work i → SameNormal k s (sum_below start n) × Cleared n start work
    ended s work i e inv =
        let h : Counted start s work 0 = rw e at inv in (
          same_sym (unit_right normals s) ▸ join_same (same_self s) (same_sym (gather_start normals val _)) ▸ h.sums,
          record { length_kept = h.long; zeroed = λ j l. h.done j (omega arith) l; beyond = h.beyond },
        )

-- cleared once more, or after a byte of the first n was flipped
pub cleared_after : (n : ℕ) (a b c : List ℕ) → Cleared n a b → Cleared n b c → Cleared n a c
cleared_after n a b c p q = record {
  length_kept = q.length_kept ∙ p.length_kept;
  zeroed = q.zeroed;
  beyond = λ i l. q.beyond i l ∙ p.beyond i l;
}

pub cleared_flipped : (n i : ℕ) (w w' : List ℕ) → i < n → Cleared n (flipped w i) w' → Cleared n w w'
cleared_flipped n i w w' l h = record {
  length_kept = h.length_kept ∙ length-set w i (bit_xor (get_or w i 0) 1);
  zeroed = h.zeroed;
  beyond = λ j m. h.beyond j m ∙ get_or-set_other w i j _ 0 (λ x. omega arith);
}
