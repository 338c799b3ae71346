-- The images of n variables as the front of a longer stretch of memory: what a step does to the front it does to the whole.
use Rattle.std.proofs.Common.{◌≡◌, ℕ, ◌+◌, ◌<◌, ◌≤◌, min, ◌↔◌, not, cond, List, ◌++◌, length, take, drop, sym, ap, ap₂, ◌∙◌, arith, length-append, length-drop}
use Rattle.std.proofs.lemmas.List.{get_or_append_left, get_or-take, take-append-drop, length-take-le}
use Rattle.std.proofs.lemmas.Slice.{drop-append-drop}
use Rattle.kinds.specs.Kinds.{Operations, Lawful}
use Rattle.terms.specs.declared.normal.Normal.{Normal}
use Rattle.terms.specs.Sets.{VarSet, has}
use Rattle.terms.specs.NormalForms.{SameNormal, of_variable, joined}
use Rattle.terms.proofs.Sums.{count_picks}
use Rattle.steps.specs.declared.Taken.{Taken}
use Rattle.steps.specs.declared.Taken.TheVariants.{Follows, Clashes, Binds}
use Rattle.solving.specs.Substitutions.{Substitution, SameSubstitution}
use Rattle.steps.specs.Rows.{images, EqualImages, AllFree, SolvedRow, Grown}
use Rattle.steps.specs.Trails.{unbinding, bound_count, Undoable}
use Rattle.steps.proofs.RowSteps.{solves_equal}

module _ {C : Type 0} (k : Operations C) (n : ℕ) where
  -- the front holds the first n images
  pub front_images : (row : List (Normal C)) → EqualImages n (images k (take n row)) (images k row)
  front_images row v b = get_or-take n row v (of_variable k v) b

  unbinding_equal : (p : ℕ) (s : VarSet) → p < n → (σ τ : Substitution C) → EqualImages n σ τ → EqualImages n (unbinding k p s σ) (unbinding k p s τ)
  unbinding_equal p s low σ τ e v b = ap₂ (λ x y. cond (has s v) (joined k x (joined k (of_variable k p) y)) x) (e v b) (e p low)

  pub same_as : (a a' b b' : Normal C) → a' ≡ a → b ≡ b' → SameNormal k a b → SameNormal k a' b'
  same_as a a' b b' e f h = rw (e, ← f) h

  module _ (front row : List (Normal C)) (long : length front ≡ n) where
    abbrev pub whole : List (Normal C)
    whole = front ++ drop n row

    pub whole_images : EqualImages n (images k whole) (images k front)
    whole_images v b = get_or_append_left front (drop n row) (of_variable k v) v (omega arith)

    -- what is past the front stays, and so does the length
    pub whole_rest : drop n whole ≡ drop n row
    whole_rest = drop-append-drop n row front n (omega arith) long

    pub whole_length : n ≤ length row → length whole ≡ length row
    whole_length l = simp (length-append, length-drop) (omega arith)

    pub whole_free : AllFree k n front → AllFree k n whole
    whole_free h v b = whole_images v b ∙ h v b

    -- the front with p taken back, as the whole with p taken back
    pub whole_unbound : (p : ℕ) (s : VarSet) → p < n → EqualImages n (images k front) (unbinding k p s (images k (take n row)))
        → EqualImages n (images k whole) (unbinding k p s (images k row))
    whole_unbound p s low h v b = whole_images v b ∙ h v b ∙ unbinding_equal p s low (images k (take n row)) (images k row) (front_images row) v b

  module _ (lawful : Lawful k) where
    pub front_solved : (rs row : List (Normal C)) → SolvedRow k n rs row → SolvedRow k n rs (take n row)
    front_solved rs row h = solves_equal k lawful n _ (images k row) (images k (take n row)) (front_images row) h

    module _ (front row : List (Normal C)) (long : length front ≡ n) where
      whole_solved : (rs : List (Normal C)) → SolvedRow k n rs front → SolvedRow k n rs (whole front row long)
      whole_solved rs h = solves_equal k lawful n _ (images k front) (images k (whole front row long)) (whole_images front row long) h

      pub whole_grown : (rs : List (Normal C)) (a : Normal C) (out : Taken) → Grown k n rs a front out → Grown k n rs a (whole front row long) out
      whole_grown rs a Follows h = whole_solved _ h
      whole_grown rs a Clashes h = tt
      whole_grown rs a (Binds p s) h = whole_solved _ h

      pub whole_undoable : (out : Taken) → Undoable k n (take n row) front out → Undoable k n row (whole front row long) out
      whole_undoable Follows h = rw h (take-append-drop n row)
      whole_undoable Clashes h = rw h (take-append-drop n row)
      whole_undoable (Binds p s) h = λ rs solved.
          let u = h rs (front_solved rs row solved) in
          let count : bound_count n (images k (whole front row long)) ≡ bound_count n (images k front)
          = count_picks n _ _ (λ v b. ap (λ (z : Normal C). not (has z.vars v)) (whole_images front row long v b)) in
          let before : bound_count n (images k (take n row)) ≡ bound_count n (images k row)
          = count_picks n _ _ (λ v b. ap (λ (z : Normal C). not (has z.vars v)) (front_images row v b)) in (
            u.0,
            λ v b. same_as _ _ _ _ (unbinding_equal p s u.0 (images k (whole front row long)) (images k front) (whole_images front row long) v b) (front_images row v b) (u.1 v b),
            count ∙ u.2 ∙ ap (λ c. c + 1) before,
            rw count u.3,
          )

-- two fronts of n images are compared as the wholes are
pub fronts_same : {C : Type 0} (k : Operations C) (n : ℕ) (row other : List (Normal C)) → n ≤ length row → n ≤ length other
    → SameSubstitution k (min (length (take n row)) (length (take n other))) (images k (take n row)) (images k (take n other)) ↔ SameSubstitution k n (images k row) (images k other)
fronts_same k n row other l m =
    let here : min (length (take n row)) (length (take n other)) ≡ n = rw (length-take-le n row l, length-take-le n other m) (omega arith) in (
      λ h v b. same_as k n _ _ _ _ (sym (front_images k n row v b)) (front_images k n other v b) (h v (rw here b)),
      λ h v b. let c : v < n = rw here at b in same_as k n _ _ _ _ (front_images k n row v c) (sym (front_images k n other v c)) (h v c),
    )
