-- Where a run of bytes ends: at the place that is computed, and at no other.
use Rattle.std.proofs.Common.{◌≡◌, ℕ, ◌+◌, ◌-◌, ◌<◌, ◌≤◌, Bool, true, false, inl, inr, List, length, get_or, drop, subst, arith}
use Rattle.std.specs.List.{prefix_len}
use Rattle.std.proofs.lemmas.List.{get_or-drop, length-drop}
use Rattle.std.proofs.lemmas.List.Sums.{prefix_len-le-length, prefix_len_passes, prefix_len_stops, prefix_len_is}
use Rattle.std.proofs.lemmas.Bool.{cases_lt}
use Rattle.tokens.specs.Tokens.{Stretch, Run}
use Rattle.tokens.specs.Next.{run_end}

module _ (p : ℕ → Bool) (line : List ℕ) where
  pub run_from : (a : ℕ) → a ≤ length line → Run p line a (run_end p line a)
  run_from a w =
      let n = prefix_len p (drop a line) in
      let within : n ≤ length line - a = omega (arith, prefix_len-le-length p (drop a line), length-drop a line) in
      record {
        stretch = record {
          begins = omega arith;
          within = omega arith;
          passes = λ i b k.
              let place : a + (i - a) ≡ i = omega arith in
              let passing = prefix_len_passes p (drop a line) (i - a) 0 (omega arith) in
              subst (λ j. p (get_or line j 0) ≡ true) place (rw get_or-drop at passing);
        };
        longest = λ h.
            let stop = prefix_len_stops p (drop a line) 0 (omega (arith, length-drop a line)) in
            rw get_or-drop at stop;
      }

  pub run_ends : {a e : ℕ} → Run p line a e → run_end p line a ≡ e
  run_ends {a} {e} r =
      let x = r.stretch in
      let place : a + (e - a) ≡ e = omega (arith, x.begins) in
      let n : prefix_len p (drop a line) ≡ e - a =
      prefix_len_is p (drop a line) (e - a) 0 (omega (arith, x.within, length-drop a line))
      (λ k h. rw get_or-drop (x.passes (a + k) (omega arith) (omega arith)))
      (λ h. rw (get_or-drop, place) (r.longest (omega (arith, length-drop a line)))) in
      omega arith

module _ {p : ℕ → Bool} {line : List ℕ} where
  pub stretch_none : {a : ℕ} → a ≤ length line → Stretch p line a a
  stretch_none w = record { begins = omega arith; within = w; passes = λ i h k. absurd (omega arith) }

  -- one byte more at the end
  pub stretch_more : {a e : ℕ} → Stretch p line a e → e < length line → p (get_or line e 0) ≡ true → Stretch p line a (e + 1)
  stretch_more {a} {e} x w h =
      record {
        begins = omega (arith, x.begins);
        within = omega arith;
        passes = λ i b k.
            elim (cases_lt i e) [
              | inl l ↦ x.passes i b l
              | inr g ↦ let s : e ≡ i = omega arith in subst (λ j. p (get_or line j 0) ≡ true) s h
            ];
      }

  pub run_none : {a : ℕ} → a ≤ length line → (a < length line → p (get_or line a 0) ≡ false) → Run p line a a
  run_none w n = record { stretch = stretch_none w; longest = n }
