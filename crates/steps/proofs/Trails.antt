-- Taking bindings back, and the trail that tells how.
use Rattle.std.proofs.Common.{◌≡◌, ℕ, ◌+◌, ◌<◌, ◌≤◌, Bool, true, false, cond, not, ltb, List, [], ◌∷◌, length, take, set, sym, refl, ap, ◌∙◌, subst, inl, inr, arith}
use Rattle.std.proofs.lemmas.List.{take-set-le}
use Rattle.std.proofs.lemmas.Bool.{cases_eq, lt-ltb, le-ltb, cond-true, cond-false, cases_Bool, both_ways}
use Rattle.kinds.specs.Kinds.{Operations, Lawful}
use Rattle.kinds.proofs.Laws.{cancel, cancel_right}
use Rattle.terms.specs.declared.normal.Normal.{Normal}
use Rattle.terms.specs.Sets.{VarSet, has, Highest}
use Rattle.terms.specs.NormalForms.{SameNormal, of_variable, joined}
use Rattle.terms.proofs.SetFacts.{has_singleton, singleton_other}
use Rattle.terms.proofs.Sums.{count_picks, count_most, count_none, count_more}
use Rattle.terms.proofs.NormalForms.{normal_laws}
use Rattle.steps.specs.declared.Binding.{Binding}
use Rattle.steps.specs.declared.Judgement.TheVariants.{Open}
use Rattle.steps.specs.declared.Taken.TheVariants.{Binds}
use Rattle.solving.specs.Substitutions.{Substitution, apply, SameSubstitution}
use Rattle.solving.specs.Equations.{Every, Clears}
use Rattle.solving.specs.SolvedForms.{Free, Solves, eliminated, binding}
use Rattle.steps.specs.Rows.{images, EqualImages, Remains}
use Rattle.steps.specs.Trails.{unbinding, unwound, remaining, bound_count, Descending, Tracing, Traced, Ended, Undoable}
use Rattle.solving.proofs.Applying.{apply_inside}
use Rattle.solving.proofs.Eliminating.{eliminated_vars, eliminated_out}
use Rattle.solving.proofs.Solving.{solves_as, free_within, same_decide}
use Rattle.steps.proofs.RowSteps.{pivot_there}

module _ {C : Type 0} (k : Operations C) (lawful : Lawful k) (n : ℕ) where
  infixr 30 ◌▸◌
  open normal_laws lawful use {same_self, same_sym, same_trans as ◌▸◌, join_same}

  -- the variable p bound by r, and taken back: τ are the images after the binding
  module _ (S : Substitution C → Type 0) (σ : Substitution C) (h : Solves k n S σ) (a r : Normal C) (e : SameNormal k r (apply k n σ a)) (p : ℕ) (high : Highest r.vars p)
      (τ : Substitution C) (after : EqualImages n τ (binding k p r σ)) where
    there : has (apply k n σ a).vars p ≡ true
    there = (pivot_there k lawful n S σ h a r e p high).0

    pub pivot_low : p < n
    pivot_low = apply_inside k lawful n σ h.over a p there

    free : Free k σ p
    free = free_within k lawful n S σ h a p there

    own : has (σ p).vars p ≡ true
    own = rw free.same_vars (has_singleton p)

    -- p with its image is what was joined in
    remainder_found : SameNormal k (joined k (of_variable k p) (τ p)) r
    remainder_found =
        let image : τ p ≡ joined k (σ p) r = after p pivot_low ∙ cond-true (has (σ p).vars p) _ _ own in
        rw image (join_same (same_self (of_variable k p)) (join_same free (same_self r)) ▸ cancel (normal_laws lawful) (of_variable k p) r)

    pub unbinding_binding : (s : VarSet) → ((v : ℕ) → v < n → has s v ≡ has (σ v).vars p) → SameSubstitution k n (unbinding k p s τ) σ
    unbinding_binding s changed v l = rw (changed v l, after v l) (go (has (σ v).vars p))
      where
        go : (c : Bool) → SameNormal k (cond c (joined k (cond c (joined k (σ v) r) (σ v)) (joined k (of_variable k p) (τ p))) (cond c (joined k (σ v) r) (σ v))) (σ v)
        go true = join_same (same_self _) remainder_found ▸ cancel_right (normal_laws lawful) (σ v) r
        go false = same_self _

    -- every variable but p is bound or free as it was
    others_stay : (v : ℕ) → v < n → (v ≡ p → ⊥) → has (σ v).vars v ≡ has (τ v).vars v
    others_stay v l d = subst (λ (z : Normal C). has (σ v).vars v ≡ has z.vars v) (sym (after v l)) (go (has (σ v).vars v) refl)
      where
        -- a variable that its own image has is free
        go : (c : Bool) → has (σ v).vars v ≡ c → has (σ v).vars v ≡ has (eliminated k p r (σ v)).vars v
        go true t =
            elim (same_decide k (σ v) (of_variable k v)) [
              | inl f ↦ ap (λ (z : Normal C). has z.vars v) (sym (cond-false (has (σ v).vars p) _ _ (ap (λ s. has s p) f.same_vars ∙ singleton_other v p d)))
              | inr b ↦ absurd (let lower = (h.reduced v l b v t).1 in omega arith)
            ]
        go false f =
            elim (cases_Bool (has (eliminated k p r (σ v)).vars v)) [
              | inr g ↦ f ∙ sym g
              | inl t ↦ elim (eliminated_vars k lawful p r high.0 (σ v) v t) [
                | inl i ↦ absurd (both_ways _ f i)
                | inr i ↦ absurd (both_ways _ f (rw (free_within k lawful n S σ h a v (subst (λ s. has s v ≡ true) e.same_vars i.1)).same_vars (has_singleton v)))
              ]
            ]

    pub one_more_bound : bound_count n τ ≡ bound_count n σ + 1
    one_more_bound =
        let gone : has (τ p).vars p ≡ false = rw (after p pivot_low) (eliminated_out k lawful p r high.0 (σ p)) in
        count_more n (λ v. not (has (σ v).vars v)) (λ v. not (has (τ v).vars v)) p pivot_low (ap not own) (ap not gone) (λ v l d. ap not (others_stay v l d))

  pub row_undoable : (row row' : List (Normal C)) (a r : Normal C) (p : ℕ) (s : VarSet) → Remains k n row a (Open p r) → EqualImages n (images k row') (binding k p r (images k row))
      → ((v : ℕ) → v < n → has s v ≡ has (images k row v).vars p) → Undoable k n row row' (Binds p s)
  row_undoable row row' a r p s c after changed rs h = (
    pivot_low _ _ h a r c.0 p c.1 _ after,
    unbinding_binding _ _ h a r c.0 p c.1 (images k row') after s changed,
    one_more_bound _ _ h a r c.0 p c.1 (images k row') after,
    count_most n _,
  )

  unbinding_same : (p : ℕ) (s : VarSet) (σ τ : Substitution C) → p < n → SameSubstitution k n σ τ → SameSubstitution k n (unbinding k p s σ) (unbinding k p s τ)
  unbinding_same p s σ τ low e v l = go (has s v)
    where
      go : (c : Bool) → SameNormal k (cond c (joined k (σ v) (joined k (of_variable k p) (σ p))) (σ v)) (cond c (joined k (τ v) (joined k (of_variable k p) (τ p))) (τ v))
      go true = join_same (e v l) (join_same (same_self _) (e p low))
      go false = e v l

  unwound_same : (ts : List Binding) (m j : ℕ) (σ τ : Substitution C) → Descending n m ts → SameSubstitution k n σ τ → SameSubstitution k n (unwound k ts j σ) (unwound k ts j τ)
  unwound_same [] m j σ τ b e v l = e v l
  unwound_same (t ∷ ts) m j σ τ b e v l =
      go (ltb t.entry j) (unwound_same ts t.entry j (unbinding k t.variable t.changed σ) (unbinding k t.variable t.changed τ) b.2 (unbinding_same t.variable t.changed σ τ b.1 e) v l)
    where
      go : (c : Bool) → SameNormal k (unwound k ts j (unbinding k t.variable t.changed σ) v) (unwound k ts j (unbinding k t.variable t.changed τ) v)
          → SameNormal k (cond c σ (unwound k ts j (unbinding k t.variable t.changed σ)) v) (cond c τ (unwound k ts j (unbinding k t.variable t.changed τ)) v)
      go true rest = e v l
      go false rest = rest

  -- nothing to take back
  pub unwound_none : (ts : List Binding) (m : ℕ) (σ : Substitution C) → Descending n m ts → unwound k ts m σ ≡ σ
  unwound_none [] m σ b = refl
  unwound_none (t ∷ ts) m σ b = cond-true (ltb t.entry m) _ _ (lt-ltb _ _ b.0)

  remaining_all : (ts : List Binding) (m : ℕ) → Descending n m ts → remaining ts m ≡ ts
  remaining_all [] m b = refl
  remaining_all (t ∷ ts) m b = cond-true (ltb t.entry m) _ _ (lt-ltb _ _ b.0)

  bound_same : (σ τ : Substitution C) → SameSubstitution k n σ τ → bound_count n σ ≡ bound_count n τ
  bound_same σ τ e = count_picks n _ _ (λ v l. ap (λ s. not (has s v)) (e v l).same_vars)

  descending_more : (m m' : ℕ) (ts : List Binding) → m ≤ m' → Descending n m ts → Descending n m' ts
  descending_more m m' [] le b = tt
  descending_more m m' (t ∷ ts) le b = (omega (arith, b.0), b.1, b.2)

  -- the same images have the same trail
  pub traced_as : (ledger : List (Normal C)) (ts : List Binding) (m : ℕ) (σ τ : Substitution C) → SameSubstitution k n σ τ → Traced k n ledger ts m σ → Traced k n ledger ts m τ
  traced_as ledger ts m σ τ e h = record {
    below = h.below;
    solves = λ j l. solves_as k lawful n _ (unwound k ts j σ) (unwound k ts j τ) (unwound_same ts m j σ τ h.below e) (h.solves j l);
    counts = λ j l. h.counts j l ∙ bound_same (unwound k ts j σ) (unwound k ts j τ) (unwound_same ts m j σ τ h.below e);
  }

  -- one entry more at m
  module _ (ledger : List (Normal C)) (ts : List Binding) (m : ℕ) (σ : Substitution C) (h : Traced k n ledger ts m σ) where
    -- as many bindings as bound variables
    pub counts_now : length ts ≡ bound_count n σ
    counts_now = rw (remaining_all ts m h.below, unwound_none ts m σ h.below) at (h.counts m (omega arith))

    pub solves_now : Solves k n (λ θ. Every (Clears k n θ) (take m ledger)) σ
    solves_now = subst (λ τ. Solves k n (λ θ. Every (Clears k n θ) (take m ledger)) τ) (unwound_none ts m σ h.below) (h.solves m (omega arith))

    module _ (x : Normal C) where
      older : (j : ℕ) → j ≤ m → take j (set ledger m x) ≡ take j ledger
      older j l = take-set-le j ledger m x l

      -- it binds nothing
      pub traced_follows : Solves k n (λ θ. Every (Clears k n θ) (take (m + 1) (set ledger m x))) σ → Traced k n (set ledger m x) ts (m + 1) σ
      traced_follows s =
          let more = descending_more m (m + 1) ts (omega arith) h.below in
          record {
            below = more;
            solves = λ j l. elim (cases_eq j (m + 1)) [
              | inl e ↦ rw (e, unwound_none ts (m + 1) σ more) s
              | inr d ↦ (let le : j ≤ m = omega (arith, d) in rw (older j le) (h.solves j le))
            ];
            counts = λ j l. elim (cases_eq j (m + 1)) [
              | inl e ↦ rw (e, unwound_none ts (m + 1) σ more, remaining_all ts (m + 1) more) counts_now
              | inr d ↦ h.counts j (omega (arith, d))
            ];
          }

      -- it binds p, and the images become τ
      pub traced_binds : (p : ℕ) (s : VarSet) (τ : Substitution C) → p < n → SameSubstitution k n (unbinding k p s τ) σ
          → Solves k n (λ θ. Every (Clears k n θ) (take (m + 1) (set ledger m x))) τ → bound_count n τ ≡ bound_count n σ + 1
          → Traced k n (set ledger m x) (record { variable = p; entry = m; changed = s } ∷ ts) (m + 1) τ
      traced_binds p s τ low e solved one =
          let back : (j : ℕ) → SameSubstitution k n (unwound k ts j σ) (unwound k ts j (unbinding k p s τ))
          = λ j. unwound_same ts m j σ (unbinding k p s τ) h.below (λ v b. same_sym (e v b)) in
          record {
            below = (omega arith, low, h.below);
            solves = λ j l. elim (cases_eq j (m + 1)) [
              | inl q ↦ rw (q, lt-ltb m (m + 1) (omega arith)) solved
              | inr d ↦ (let le : j ≤ m = omega (arith, d) in rw (older j le, le-ltb m j le) (solves_as k lawful n _ _ _ (back j) (h.solves j le)))
            ];
            counts = λ j l. elim (cases_eq j (m + 1)) [
              | inl q ↦ rw (q, lt-ltb m (m + 1) (omega arith)) (let now_so = counts_now in omega arith)
              | inr d ↦ (let le : j ≤ m = omega (arith, d) in rw (le-ltb m j le) (h.counts j le ∙ bound_same _ _ (back j)))
            ];
          }

  -- the latest binding taken back
  pub tracing_pop : (ledger : List (Normal C)) (t : Binding) (ts : List Binding) (top m : ℕ) (σ τ : Substitution C) → m ≤ t.entry
      → (t.variable < n → EqualImages n τ (unbinding k t.variable t.changed σ)) → Tracing k n ledger (t ∷ ts) top m σ → Tracing k n ledger ts top m τ
  tracing_pop ledger t ts top m σ τ le e h =
      let b = h.below in
      let back = unbinding k t.variable t.changed σ in
      let same : (j : ℕ) → SameSubstitution k n (unwound k ts j (unbinding k t.variable t.changed σ)) (unwound k ts j τ)
      = λ j. unwound_same ts t.entry j (unbinding k t.variable t.changed σ) τ b.2 (λ v l. rw (e b.1 v l) (same_self _)) in
      record {
        below = descending_more t.entry top ts (omega (arith, b.0)) b.2;
        solves = λ j l. solves_as k lawful n _ _ (unwound k ts j τ) (same j)
            (subst (λ c. Solves k n (λ θ. Every (Clears k n θ) (take j ledger)) (cond c σ (unwound k ts j back))) (le-ltb t.entry j (omega arith)) (h.solves j l));
        counts = λ j l.
            subst (λ c. length (cond c (t ∷ ts) (remaining ts j)) ≡ bound_count n (cond c σ (unwound k ts j back))) (le-ltb t.entry j (omega arith)) (h.counts j l)
            ∙ bound_same _ (unwound k ts j τ) (same j);
      }

  pub tracing_end : (ledger : List (Normal C)) (ts : List Binding) (top m : ℕ) (σ : Substitution C) → Ended m ts → Tracing k n ledger ts top m σ → Traced k n ledger ts m σ
  tracing_end ledger [] top m σ e h = record { below = tt; solves = h.solves; counts = h.counts }
  tracing_end ledger (t ∷ ts) top m σ e h = record { below = (e, h.below.1, h.below.2); solves = h.solves; counts = h.counts }

  -- taking back to a shorter ledger begins
  pub tracing_start : (ledger : List (Normal C)) (ts : List Binding) (top m : ℕ) (σ : Substitution C) → m ≤ top → Traced k n ledger ts top σ → Tracing k n ledger ts top m σ
  tracing_start ledger ts top m σ le h = record {
    below = h.below;
    solves = λ j l. h.solves j (omega arith);
    counts = λ j l. h.counts j (omega arith);
  }

  pub traced_start : (ledger : List (Normal C)) (σ : Substitution C) → EqualImages n σ (of_variable k) → Solves k n (λ θ. Every (Clears k n θ) []) σ → Traced k n ledger [] 0 σ
  traced_start ledger σ e h = record {
    below = tt;
    solves = λ j l. (let z : j ≡ 0 = omega arith in rw z h);
    counts = λ j l. sym (count_none n _ (λ v b. ap (λ (z : Normal C). not (has z.vars v)) (e v b) ∙ ap not (has_singleton v)));
  }
