-- The theorems about lists of equations.
use Rattle.std.proofs.Common.{◌≡◌, ℕ, zero, suc, ◌⊎◌, ◌↔◌, List, [], ◌∷◌, ◌++◌, take, inl, inr, append_assoc, append-nil}
use Rattle.kinds.specs.Kinds.{Operations, Lawful}
use Rattle.terms.specs.declared.normal.Normal.{Normal}
use Rattle.terms.specs.NormalForms.{zero_form}
use Rattle.terms.proofs.SetFacts.{some_highest}
use Rattle.terms.proofs.NormalForms.{normal_laws}
use Rattle.solving.specs.Substitutions.{Substitution, Over}
use Rattle.solving.specs.Equations.{Equation, WithinEquation, Meets, Every, MeetsAll, joined_sides, Clears}
use Rattle.solving.specs.SolvedForms.{Solves, Solved, binding}
use Rattle.solving.specs.Theorems.{remainder, EmptySolved, Follows, Clashes, Binds, OneOfThree, SolvedOrNone, Canonical, Respects, Records, Recorded}
use Rattle.solving.proofs.Applying.{apply_same, apply_inside, meets_clears}
use Rattle.solving.proofs.Solving.{same_decide, solves_same, solves_none, follows, solves_more, clashes, unclear, solves_binding, canonical, solves_as}

pub every_more : {A : Type 0} (P : A → Type 0) (xs : List A) (y : A) → Every P (xs ++ (y ∷ [])) ↔ (Every P xs × P y)
every_more P [] y = (λ h. (tt, h.0), λ h. (h.1, tt))
every_more P (x ∷ xs) y = (
  λ h. ((h.0, ((every_more P xs y).0 h.1).0), ((every_more P xs y).0 h.1).1),
  λ h. (h.0.0, (every_more P xs y).1 (h.0.1, h.1)),
)

pub every_take : {A : Type 0} (P : A → Type 0) (m : ℕ) (xs : List A) → Every P xs → Every P (take m xs)
every_take P zero xs h = tt
every_take P (suc m) [] h = tt
every_take P (suc m) (x ∷ xs) h = (h.0, every_take P m xs h.1)

module _ {C : Type 0} (k : Operations C) (lawful : Lawful k) where
  pub empty_solved : EmptySolved k
  empty_solved n = solves_none k lawful n

  -- one more equation is one more normal form to clear
  more : (n : ℕ) (es : List (Equation C)) (e : Equation C) → WithinEquation n e → (σ : Substitution C)
      → Solves k n (λ θ. MeetsAll k θ es × Clears k n θ (joined_sides k e)) σ → Solved k n (es ++ (e ∷ [])) σ
  more n es e w σ =
      solves_same k lawful n _ _ σ (λ θ o. (
        λ m. (every_more (Meets k θ) es e).1 (m.0, (meets_clears k lawful n θ e w).1 m.1),
        λ m. let q = (every_more (Meets k θ) es e).0 m in (q.0, (meets_clears k lawful n θ e w).0 q.1),
      ))

  pub follows_on : Follows k
  follows_on n es σ h e w c = (
    λ θ o m. (meets_clears k lawful n θ e w).1 (follows k lawful n _ σ h (joined_sides k e) c θ o m),
    more n es e w σ (solves_more k lawful n _ σ h (joined_sides k e) c),
  )

  pub clashes_with : Clashes k
  clashes_with n es σ h e w v d θ o m x = clashes k lawful n _ σ h (joined_sides k e) v d θ o m ((meets_clears k lawful n θ e w).0 x)

  pub binds : Binds k
  binds n es σ h e w p high =
      let next = binding k p (remainder k n σ e) σ in
      let s = solves_binding k lawful n _ σ h (joined_sides k e) p high in (
        (next, s.over, s.meets.0, (meets_clears k lawful n next e w).1 s.meets.1),
        (σ, h.over, h.meets, λ x. unclear k lawful n _ σ h (joined_sides k e) p high ((meets_clears k lawful n σ e w).0 x)),
        more n es e w next s,
      )

  pub one_of_three : OneOfThree k
  one_of_three n σ o e =
      let r = remainder k n σ e in
      elim (some_highest n r.vars (apply_inside k lawful n σ o (joined_sides k e))) [
        | inl v ↦ elim (same_decide k r (zero_form k)) [
          | inl s ↦ inl s
          | inr d ↦ inr (inl (v, λ c. d (record { same_vars = v; same_constant = c })))
        ]
        | inr high ↦ inr (inr high)
      ]

  pub canonical_form : Canonical k
  canonical_form n es es' σ σ' h g = canonical k lawful n _ _ σ σ' h g

  pub recorded_all : (n : ℕ) (es : List (Equation C)) → Every (WithinEquation n) es → (rs : List (Normal C)) → Records k es rs
      → (θ : Substitution C) → MeetsAll k θ es ↔ Every (Clears k n θ) rs
  recorded_all n [] w [] q θ = (λ h. tt, λ h. tt)
  recorded_all n [] w (a ∷ rs) q θ = elim q [ ]
  recorded_all n (e ∷ es) w [] q θ = elim q [ ]
  recorded_all n (e ∷ es) w (a ∷ rs) q θ =
      let normals = normal_laws lawful in
      let rest = recorded_all n es w.1 rs q.1 θ in
      let here = meets_clears k lawful n θ e w.0 in
      let alike = apply_same k lawful n θ _ _ q.0 in (
        λ h. (normals.same_trans (normals.same_sym alike) (here.0 h.0), rest.0 h.1),
        λ h. (here.1 (normals.same_trans alike h.0), rest.1 h.1),
      )

  pub recorded : Recorded k
  recorded n es w rs q σ = (
    solves_same k lawful n _ _ σ (λ θ o. recorded_all n es w rs q θ),
    solves_same k lawful n _ _ σ (λ θ o. ((recorded_all n es w rs q θ).1, (recorded_all n es w rs q θ).0)),
  )

  pub respects : Respects k
  respects n es σ τ e h = solves_as k lawful n _ σ τ e h

  every_front : {A : Type 0} (P : A → Type 0) (xs ys : List A) → Every P (xs ++ ys) → Every P xs
  every_front P [] ys h = tt
  every_front P (x ∷ xs) ys h = (h.0, every_front P xs ys h.1)

  -- the equations of es one by one, after those that are solved
  go_on : (n : ℕ) → (done es : List (Equation C)) → Every (WithinEquation n) es → (σ : Substitution C) → Solved k n done σ
      → ((τ : Substitution C) × Solved k n (done ++ es) τ) ⊎ ((θ : Substitution C) → Over n θ → MeetsAll k θ (done ++ es) → ⊥)
  go_on n done [] w σ h = inl (σ, rw append-nil h)
  go_on n done (e ∷ es) w σ h =
      let more_done : (done ++ (e ∷ [])) ++ es ≡ done ++ (e ∷ es) = append_assoc done (e ∷ []) es in
      elim (one_of_three n σ h.over e) [
        | inl c ↦ rw (← more_done) (go_on n (done ++ (e ∷ [])) es w.1 σ (follows_on n done σ h e w.0 c).1)
        | inr (inl d) ↦ inr (λ θ o m.
            let q = (every_more (Meets k θ) done e).0 (every_front (Meets k θ) (done ++ (e ∷ [])) es (rw more_done m)) in
            clashes_with n done σ h e w.0 d.0 d.1 θ o q.0 q.1)
        | inr (inr high) ↦ rw (← more_done) (go_on n (done ++ (e ∷ [])) es w.1 _ (binds n done σ h e w.0 high.0 high.1).2)
      ]

  pub solved_or_none : SolvedOrNone k
  solved_or_none n es w = go_on n [] es w _ (empty_solved n)
