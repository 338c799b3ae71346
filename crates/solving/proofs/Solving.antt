-- The solved form of what some substitutions meet: with one more normal form to clear, and that it is unique.
use Rattle.std.proofs.Common.{◌≡◌, ℕ, ◌<◌, ◌≤◌, Bool, true, false, cond, ◌⊎◌, ◌↔◌, sym, refl, subst, inl, inr, arith}
use Rattle.std.proofs.lemmas.Bool.{cases_Bool, both_ways}
use Rattle.kinds.proofs.Laws.{unit_right}
use Rattle.kinds.specs.Kinds.{Operations, Lawful, SameConstant}
use Rattle.terms.specs.declared.normal.Normal.{Normal}
use Rattle.terms.specs.Sets.{has, empty, Highest}
use Rattle.terms.specs.NormalForms.{SameNormal, of_constant, of_variable, zero_form, joined}
use Rattle.terms.proofs.SetFacts.{has_empty, has_singleton, singleton_has, singleton_other, sets_decide}
use Rattle.terms.proofs.NormalForms.{normal_laws}
use Rattle.solving.specs.Substitutions.{Substitution, apply, followed, Over, SameSubstitution}
use Rattle.solving.specs.Equations.{Clears}
use Rattle.solving.specs.SolvedForms.{Free, Solves, eliminated, binding}
use Rattle.solving.proofs.Applying.{apply_same, apply_joined, apply_constant, apply_variable, apply_agree, apply_apply, apply_vars, apply_inside, apply_variables}
use Rattle.solving.proofs.Eliminating.{eliminated_same, eliminated_keeps, eliminated_out, eliminated_self, eliminated_vars, apply_eliminated}

pub same_decide : {C : Type 0} (k : Operations C) (a b : Normal C) → SameNormal k a b ⊎ (SameNormal k a b → ⊥)
same_decide k a b =
    elim (sets_decide a.vars b.vars) [
      | inr d ↦ inr (λ e. d e.same_vars)
      | inl v ↦ elim (cases_Bool (k.same a.constant b.constant)) [
        | inl t ↦ inl (record { same_vars = v; same_constant = rw t tt })
        | inr f ↦ inr (λ e. rw f at e.same_constant)
      ]
    ]

module _ {C : Type 0} (k : Operations C) (lawful : Lawful k) (n : ℕ) where
  infixr 30 ◌▸◌
  open normal_laws lawful use {same_self, same_sym, same_trans as ◌▸◌, join_same}

  -- who is solved has the same solved form with the same solutions
  pub solves_same : (S S' : Substitution C → Type 0) (σ : Substitution C) → ((θ : Substitution C) → Over n θ → S θ ↔ S' θ) → Solves k n S σ → Solves k n S' σ
  solves_same S S' σ e h = record {
    over = h.over;
    meets = (e σ h.over).0 h.meets;
    reduced = h.reduced;
    idempotent = h.idempotent;
    most_general = λ θ o. (λ m. (h.most_general θ o).0 ((e θ o).1 m), λ q. (e θ o).0 ((h.most_general θ o).1 q));
  }

  -- with nothing to meet, each variable stands for itself
  pub solves_none : Solves k n (λ θ. Unit {0}) (of_variable k)
  solves_none = record {
    over = λ v l u h. subst (λ x. x < n) (singleton_has v u h) l;
    meets = tt;
    reduced = λ v l f. absurd (f (same_self _));
    idempotent = λ v l. apply_variable k lawful n (of_variable k) v l;
    most_general = λ θ o. (λ m v l. same_sym (apply_variable k lawful n θ v l), λ q. tt);
  }

  module _ (S : Substitution C → Type 0) (σ : Substitution C) (h : Solves k n S σ) where
    -- a variable of what v stands for is v itself, left free, or lower and free
    parts : (v : ℕ) → v < n → (u : ℕ) → has (σ v).vars u ≡ true → Free k σ u × ((v ≡ u) ⊎ (u < v))
    parts v l u m =
        elim (same_decide k (σ v) (of_variable k v)) [
          | inl f ↦ (let e : v ≡ u = singleton_has v u (rw f.same_vars at m) in (subst (Free k σ) e f, inl e))
          | inr b ↦ ((h.reduced v l b u m).0, inr (h.reduced v l b u m).1)
        ]

    pub free_within : (a : Normal C) (u : ℕ) → has (apply k n σ a).vars u ≡ true → Free k σ u
    free_within a = apply_vars k lawful n (Free k σ) σ a (λ v l i u m. (parts v l u m).0)

    -- applying σ twice is applying it once
    pub idempotent_at : (a : Normal C) → SameNormal k (apply k n σ (apply k n σ a)) (apply k n σ a)
    idempotent_at a = apply_apply k lawful n σ σ a ▸ apply_agree k lawful n _ σ a (λ u l m. h.idempotent u l)

    -- to a solution, what σ makes of a is as good as a
    pub through : (θ : Substitution C) → Over n θ → S θ → (a : Normal C) → SameNormal k (apply k n θ (apply k n σ a)) (apply k n θ a)
    through θ o m a = apply_apply k lawful n σ θ a ▸ apply_agree k lawful n _ θ a (λ u l i. same_sym ((h.most_general θ o).0 m u l))

    module _ (a : Normal C) where
      -- nothing is left of a: it follows
      pub follows : Clears k n σ a → (θ : Substitution C) → Over n θ → S θ → Clears k n θ a
      follows c θ o m = same_sym (through θ o m a) ▸ apply_same k lawful n θ _ _ c ▸ apply_constant k lawful n θ _

      pub solves_more : Clears k n σ a → Solves k n (λ θ. S θ × Clears k n θ a) σ
      solves_more c = record {
        over = h.over;
        meets = (h.meets, c);
        reduced = h.reduced;
        idempotent = h.idempotent;
        most_general = λ θ o. (λ m. (h.most_general θ o).0 m.0, λ q. ((h.most_general θ o).1 q, follows c θ o ((h.most_general θ o).1 q)));
      }

      -- a constant is left: no solution clears it
      pub clashes : (apply k n σ a).vars ≡ empty → (SameConstant k (apply k n σ a).constant k.zero → ⊥)
          → (θ : Substitution C) → Over n θ → S θ → Clears k n θ a → ⊥
      clashes e d θ o m c =
          let r = apply k n σ a in
          let plain : SameNormal k r (of_constant r.constant) = record { same_vars = e; same_constant = lawful.same_self _ } in
          let left : SameNormal k (of_constant r.constant) (zero_form k) = same_sym (apply_same k lawful n θ _ _ plain ▸ apply_constant k lawful n θ _) ▸ through θ o m a ▸ c in
          d left.same_constant

      -- variables are left, and p is the highest: p is bound
      module _ (p : ℕ) (high : Highest (apply k n σ a).vars p) where
        pub unclear : Clears k n σ a → ⊥
        unclear c = both_ways _ (has_empty p) (rw c.same_vars at high.0)

        abbrev r : Normal C
        r = apply k n σ a

        abbrev next : Substitution C
        next = binding k p r σ

        -- σ leaves what it made, p put in or not, as it is
        kept : (b : Normal C) → SameNormal k (apply k n σ b) b → SameNormal k (apply k n σ (eliminated k p r b)) (eliminated k p r b)
        kept b e = go (has b.vars p)
          where
            go : (c : Bool) → SameNormal k (apply k n σ (cond c (joined k b r) b)) (cond c (joined k b r) b)
            go true = apply_joined k lawful n σ b r ▸ join_same e (idempotent_at a)
            go false = e

        -- next after σ is next
        after : (v : ℕ) → v < n → SameNormal k (apply k n next (σ v)) (next v)
        after v l = apply_eliminated k lawful p r high.0 n σ (σ v) ▸ eliminated_same k lawful p r high.0 _ _ (h.idempotent v l)

        next_over : Over n next
        next_over v l u m =
            elim (eliminated_vars k lawful p r high.0 (σ v) u m) [
              | inl i ↦ h.over v l u i
              | inr i ↦ apply_inside k lawful n σ h.over a u i.1
            ]

        next_clears : Clears k n next a
        next_clears = apply_eliminated k lawful p r high.0 n σ a ▸ eliminated_self k lawful p r high.0

        next_free : (u : ℕ) → (u ≡ p → ⊥) → Free k σ u → Free k next u
        next_free u d f = eliminated_keeps k lawful p r high.0 (σ u) (rw f.same_vars (singleton_other u p d)) ▸ f

        next_reduced : (v : ℕ) → v < n → (Free k next v → ⊥) → (u : ℕ) → has (next v).vars u ≡ true → Free k next u × (u < v)
        next_reduced v l b u m =
            let other : u ≡ p → ⊥ = λ e. both_ways _ (eliminated_out k lawful p r high.0 (σ v)) (rw e at m) in
            elim (eliminated_vars k lawful p r high.0 (σ v) u m) [
              | inl i ↦ (
                  let q = parts v l u i in (
                    next_free u other q.0,
                    elim q.1 [
                      | inl e ↦ absurd (b (subst (Free k next) (sym e) (next_free u other q.0)))
                      | inr x ↦ x
                    ],
                  ))
              | inr i ↦ (
                  let q = parts v l p i.0 in
                  let low : u ≤ p = high.1 u i.1 in
                  (next_free u other (free_within a u i.1), omega (arith, q.1, other)))
            ]

        next_idempotent : SameSubstitution k n (followed k n next next) next
        next_idempotent v l =
            apply_eliminated k lawful p r high.0 n σ (next v)
            ▸ eliminated_same k lawful p r high.0 _ _ (kept (σ v) (h.idempotent v l))
            ▸ eliminated_keeps k lawful p r high.0 (next v) (eliminated_out k lawful p r high.0 (σ v))

        next_passes : (θ : Substitution C) → Over n θ → S θ → Clears k n θ a → SameSubstitution k n θ (followed k n next θ)
        next_passes θ o m c v l = same_sym (go (has (σ v).vars p))
          where
            before : SameNormal k (apply k n θ (σ v)) (θ v)
            before = same_sym ((h.most_general θ o).0 m v l)

            go : (d : Bool) → SameNormal k (apply k n θ (cond d (joined k (σ v) r) (σ v))) (θ v)
            go true = apply_joined k lawful n θ (σ v) r ▸ join_same before (through θ o m a ▸ c) ▸ unit_right (normal_laws lawful) _
            go false = before

        next_meets : (θ : Substitution C) → Over n θ → SameSubstitution k n θ (followed k n next θ) → S θ × Clears k n θ a
        next_meets θ o q =
            let passes : (b : Normal C) → SameNormal k (apply k n θ b) (apply k n θ (apply k n next b))
            = λ b. apply_agree k lawful n θ _ b (λ u l i. q u l) ▸ same_sym (apply_apply k lawful n next θ b) in (
              (h.most_general θ o).1 (λ v l. same_sym (passes (σ v) ▸ apply_same k lawful n θ _ _ (after v l) ▸ same_sym (q v l))),
              passes a ▸ apply_same k lawful n θ _ _ next_clears ▸ apply_constant k lawful n θ _,
            )

        pub solves_binding : Solves k n (λ θ. S θ × Clears k n θ a) next
        solves_binding = record {
          over = next_over;
          meets = ((h.most_general next next_over).1 (λ v l. same_sym (after v l)), next_clears);
          reduced = next_reduced;
          idempotent = next_idempotent;
          most_general = λ θ o. (λ m. next_passes θ o m.0 m.1, next_meets θ o);
        }

  -- two solved forms with the same solutions: what is free in the second is free in the first
  module _ (S S' : Substitution C → Type 0) (σ τ : Substitution C) (h : Solves k n S σ) (g : Solves k n S' τ) (same : (θ : Substitution C) → Over n θ → S θ ↔ S' θ) where
    after_first : SameSubstitution k n τ (followed k n σ τ)
    after_first = (h.most_general τ g.over).0 ((same τ g.over).1 g.meets)

    free_back : (v : ℕ) → v < n → Free k τ v → Free k σ v
    free_back v l f =
        elim (same_decide k (σ v) (of_variable k v)) [
          | inl y ↦ y
          | inr b ↦
              let there : has (apply k n τ (σ v)).vars v ≡ true = rw (← (same_sym f ▸ after_first v l).same_vars) (has_singleton v) in
              absurd (apply_vars k lawful n (λ w. w ≡ v → ⊥) τ (σ v)
              (λ u y i w m e. omega (arith, (h.reduced v l b u i).1, (parts S' τ g u y w m).1)) v there refl)
        ]

  solutions_move : (S S' : Substitution C → Type 0) (σ τ : Substitution C) → Solves k n S σ → Solves k n S' τ → SameSubstitution k n σ τ
      → (θ : Substitution C) → Over n θ → S θ → S' θ
  solutions_move S S' σ τ h g e θ o m = (g.most_general θ o).1 (λ v l. (h.most_general θ o).0 m v l ▸ apply_same k lawful n θ _ _ (e v l))

  pub canonical : (S S' : Substitution C → Type 0) (σ τ : Substitution C) → Solves k n S σ → Solves k n S' τ
      → SameSubstitution k n σ τ ↔ ((θ : Substitution C) → Over n θ → S θ ↔ S' θ)
  canonical S S' σ τ h g = (
    λ e θ o. (solutions_move S S' σ τ h g e θ o, solutions_move S' S τ σ g h (λ v l. same_sym (e v l)) θ o),
    λ same v l. same_sym (
        after_first S S' σ τ h g same v l
        ▸ apply_agree k lawful n τ (of_variable k) (σ v) (λ u y i. free_back S' S τ σ g h (λ θ o. ((same θ o).1, (same θ o).0)) u y (parts S σ h v l u i).0)
        ▸ apply_variables k lawful n (σ v) (h.over v l)),
  )

  -- what is the same as a solved form is one
  pub solves_as : (S : Substitution C → Type 0) (σ τ : Substitution C) → SameSubstitution k n σ τ → Solves k n S σ → Solves k n S τ
  solves_as S σ τ e h =
      let over : Over n τ = λ v l u m. h.over v l u (rw (← (e v l).same_vars) at m) in
      let swap : (a : Normal C) → SameNormal k (apply k n τ a) (apply k n σ a) = λ a. apply_agree k lawful n τ σ a (λ u l m. same_sym (e u l)) in
      record {
        over = over;
        meets = (h.most_general τ over).1 (λ v l. same_sym (swap (σ v) ▸ h.idempotent v l ▸ e v l));
        reduced = λ v l b u m.
            let i : has (σ v).vars u ≡ true = rw (e v l).same_vars m in
            let q = h.reduced v l (λ f. b (same_sym (e v l) ▸ f)) u i in
            (same_sym (e u (h.over v l u i)) ▸ q.0, q.1);
        idempotent = λ v l. swap (τ v) ▸ apply_same k lawful n σ _ _ (same_sym (e v l)) ▸ h.idempotent v l ▸ e v l;
        most_general = λ θ o. (
          λ m v l. (h.most_general θ o).0 m v l ▸ apply_same k lawful n θ _ _ (e v l),
          λ q. (h.most_general θ o).1 (λ v l. q v l ▸ apply_same k lawful n θ _ _ (same_sym (e v l))),
        );
      }
