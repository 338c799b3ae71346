-- The checks of a table: how far they have come, and what the working bytes then hold.
use Rattle.std.proofs.Common.{◌≡◌, ℕ, ◌-◌, ◌≤◌, ◌++◌, List, length, get_or, take, drop, ap, ◌∙◌, refl, arith, length-append, length-drop}
use Rattle.std.proofs.Math.ListN.{replicate}
use Rattle.std.proofs.lemmas.List.{get_or_append_left, length-replicate, get_or-replicate, get_or-append_right, get_or-drop, length-take-le}
use Rattle.terms.specs.Limits.{most_variables}
use Rattle.tables.specs.Limits.{most_nodes}
use Rattle.tables.specs.Tables.{Input}
use Rattle.tables.specs.Calls.{Cleared, PastMemory, Worked}

-- the size, the number of nodes and the memory are right
pub past : {C : Type 0} (n : ℕ) (i : Input C) → (n ≡ 0 → ⊥) → n ≤ most_variables → (length i.table ≡ 0 → ⊥) → length i.table ≤ most_nodes → length i.table ≤ i.room → PastMemory n i
past n i a b d e f = ((omega (arith, a), b), (omega (arith, d), e), f)

-- the working bytes where the checks stop before they are cleared, and where they go past that
pub early : {Past : Type 0} (n : ℕ) (w : List ℕ) → (Past → ⊥) → Worked Past n w w
early n w not_past = (λ p. absurd (not_past p), λ no. refl)

pub late : {Past : Type 0} (n : ℕ) (w v : List ℕ) → Past → Cleared n w v → Worked Past n w v
late n w v p cleared = (λ q. cleared, λ no. absurd (no p))

-- the first n bytes filled with zeros
pub front_cleared : (n : ℕ) (w f : List ℕ) → n ≤ length w → f ≡ replicate (length (take n w)) 0 → Cleared n w (f ++ drop n w)
front_cleared n w f l e =
    let long : length f ≡ n = ap length e ∙ length-replicate (length (take n w)) 0 ∙ length-take-le n w l in
    record {
      length_kept = simp (length-append, length-drop) (omega arith);
      zeroed = λ i b.
          get_or_append_left f (drop n w) 0 i (omega arith) ∙ ap (λ l. get_or l i 0) e ∙ get_or-replicate (length (take n w)) i 0 0 (omega (arith, length-take-le n w l));
      beyond = λ i b. get_or-append_right f (drop n w) n i 0 long b ∙ get_or-drop n w (i - n) 0 ∙ ap (λ j. get_or w j 0) (omega arith);
    }
