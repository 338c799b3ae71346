-- The steps over a row of normal forms: loops that rewrite it, and what one more normal form makes of it.
use Rattle.std.proofs.Common.{◌≡◌, ℕ, ◌+◌, ◌<◌, ◌≤◌, Bool, true, false, not, List, [], ◌∷◌, ◌++◌, length, get_or, take, set, sym, refl, ap, ◌∙◌, subst, inl, inr, arith}
use Rattle.std.proofs.lemmas.List.{take_more, get_or_read, get_or-set_same, get_or-set_other}
use Rattle.std.proofs.lemmas.Bool.{cases_eq, both_ways}
use Rattle.kinds.specs.Kinds.{Operations, Lawful}
use Rattle.terms.specs.declared.normal.Normal.{Normal}
use Rattle.terms.specs.Sets.{VarSet}
use Rattle.terms.specs.Sets.{has, empty, singleton, symmetric_difference, Highest}
use Rattle.terms.specs.NormalForms.{SameNormal, of_variable}
use Rattle.terms.proofs.SetFacts.{has_empty, toggled_that, toggled_other, taken_out}
use Rattle.terms.proofs.NormalForms.{normal_laws}
use Rattle.steps.specs.declared.Judgement.{Judgement}
use Rattle.steps.specs.declared.Judgement.TheVariants.{Forced, Never, Open}
use Rattle.steps.specs.declared.Taken.{Taken}
use Rattle.steps.specs.declared.Taken.TheVariants as taken
use Rattle.solving.specs.Substitutions.{Substitution, apply}
use Rattle.solving.specs.Equations.{Every, Clears}
use Rattle.solving.specs.SolvedForms.{Solves, binding}
use Rattle.steps.specs.Rows.{images, EqualImages, AllFree, SolvedRow, Says, Remains, judged_as, taken_as, Grown, Resolves}
use Rattle.solving.proofs.Eliminating.{eliminated_by_same}
use Rattle.solving.proofs.Solving.{solves_same, solves_none, solves_as, follows, solves_more, clashes, unclear, solves_binding}
use Rattle.solving.proofs.Theorems.{every_more, every_take}

-- an element that is read is the image at its place
pub row_read : {C : Type 0} (k : Operations C) (row : List (Normal C)) (v : ℕ) (x : Normal C) → v < length row → x ≡ get_or row v x → x ≡ images k row v
row_read k row v x l is = get_or_read row v x l is (of_variable k v)

-- a loop that rewrites a row: the images that are done are those of τ, and those that are left are as before
pub record Rewriting {C : Type 0} (k : Operations C) (n : ℕ) (Done Left : ℕ → Type 0) (τ : Substitution C) (before after : List (Normal C)) : Type 0 where
  pub done : (u : ℕ) → Done u → images k after u ≡ τ u
  pub left : (u : ℕ) → Left u → images k after u ≡ images k before u

module _ {C : Type 0} (k : Operations C) (n : ℕ) {Done Left : ℕ → Type 0} (τ : Substitution C) (before after : List (Normal C)) (h : Rewriting k n Done Left τ before after) where
  -- an element that is read before it is done
  pub rewriting_read : (v : ℕ) (x : Normal C) → v < length after → x ≡ get_or after v x → Left v → x ≡ images k before v
  rewriting_read v x l is i = row_read k after v x l is ∙ h.left v i

  pub rewriting_put : {Done' Left' : ℕ → Type 0} (v : ℕ) (y : Normal C) → v < n → v < length after → y ≡ τ v
      → ((u : ℕ) → Done' u → (u ≡ v → ⊥) → Done u) → ((u : ℕ) → Left' u → Left u × (u ≡ v → ⊥))
      → Rewriting k n Done' Left' τ before (set after v y)
  rewriting_put v y low l e d f = record {
    done = λ u i. elim (cases_eq u v) [
      | inl q ↦ rw q (get_or-set_same after v y (of_variable k v) l ∙ e)
      | inr o ↦ get_or-set_other after v u y (of_variable k u) o ∙ h.done u (d u i o)
    ];
    left = λ u i. get_or-set_other after v u y (of_variable k u) (f u i).1 ∙ h.left u (f u i).0;
  }

  -- nothing to write at v
  pub rewriting_skip : {Done' Left' : ℕ → Type 0} (v : ℕ) → Left v → (Done' v → images k before v ≡ τ v)
      → ((u : ℕ) → Done' u → (u ≡ v → ⊥) → Done u) → ((u : ℕ) → Left' u → Left u)
      → Rewriting k n Done' Left' τ before after
  rewriting_skip {Done'} v i e d f = record {
    done = λ u j. elim (cases_eq u v) [
      | inl q ↦ rw q (h.left v i ∙ e (subst Done' q j))
      | inr o ↦ h.done u (d u j o)
    ];
    left = λ u j. h.left u (f u j);
  }

-- by rising variables, at v
abbrev pub Passing : {C : Type 0} → Operations C → ℕ → ℕ → Substitution C → List (Normal C) → List (Normal C) → Type 0
Passing k n v τ before after = Rewriting k n (λ u. u < v) (λ u. v ≤ u) τ before after

module _ {C : Type 0} (k : Operations C) (n : ℕ) (τ : Substitution C) (before : List (Normal C)) where
  pub passing_start : Passing k n 0 τ before before
  passing_start = record { done = λ u l. absurd (omega arith); left = λ u l. refl }

  pub passing_put : (v : ℕ) (after : List (Normal C)) (y : Normal C) → v < n → v < length after → y ≡ τ v
      → Passing k n v τ before after → Passing k n (v + 1) τ before (set after v y)
  passing_put v after y low l e h = rewriting_put k n τ before after h v y low l e (λ u i o. omega (arith, o)) (λ u i. (omega arith, λ q. omega arith))

  pub passing_skip : (v : ℕ) (after : List (Normal C)) → images k before v ≡ τ v → Passing k n v τ before after → Passing k n (v + 1) τ before after
  passing_skip v after e h = rewriting_skip k n τ before after h v (omega arith) (λ i. e) (λ u i o. omega (arith, o)) (λ u i. omega arith)

-- by the members of a set s, of which those in rest are still to come; members from n upward are passed over
pub record Visiting {C : Type 0} (k : Operations C) (n : ℕ) (s rest : VarSet) (τ : Substitution C) (before after : List (Normal C)) : Type 0 where
  pub members : (u : ℕ) → has rest u ≡ true → has s u ≡ true
  pub row : Rewriting k n (λ u. (u < n) × (has rest u ≡ false)) (λ u. has rest u ≡ true) τ before after

-- what is still to come once v has come
still : (rest : VarSet) (v u : ℕ) → has rest v ≡ true → has (symmetric_difference rest (singleton v)) u ≡ true → (has rest u ≡ true) × (u ≡ v → ⊥)
still rest v u h m =
    let other : u ≡ v → ⊥ = λ e. both_ways _ (taken_out rest v h) (rw e at m) in
    (sym (toggled_other rest v u other) ∙ m, other)

module _ {C : Type 0} (k : Operations C) (n : ℕ) (s : VarSet) (τ : Substitution C) (before : List (Normal C)) where
  pub visiting_start : ((u : ℕ) → has s u ≡ false → images k before u ≡ τ u) → Visiting k n s s τ before before
  visiting_start e = record {
    members = λ u m. m;
    row = record { done = λ u i. e u i.1; left = λ u i. refl };
  }

  module _ (rest : VarSet) (after : List (Normal C)) (h : Visiting k n s rest τ before after) (v : ℕ) (there : has rest v ≡ true) where
    left_members : (u : ℕ) → has (symmetric_difference rest (singleton v)) u ≡ true → has s u ≡ true
    left_members u m = h.members u (still rest v u there m).0

    done_members : (u : ℕ) → (u < n) × (has (symmetric_difference rest (singleton v)) u ≡ false) → (u ≡ v → ⊥) → (u < n) × (has rest u ≡ false)
    done_members u i o = (i.0, sym (toggled_other rest v u o) ∙ i.1)

    pub visiting_put : (y : Normal C) → v < n → v < length after → y ≡ τ v → Visiting k n s (symmetric_difference rest (singleton v)) τ before (set after v y)
    visiting_put y low l e = record {
      members = left_members;
      row = rewriting_put k n τ before after h.row v y low l e done_members (λ u m. still rest v u there m);
    }

    pub visiting_beyond : n ≤ v → Visiting k n s (symmetric_difference rest (singleton v)) τ before after
    visiting_beyond high = record {
      members = left_members;
      row = rewriting_skip k n τ before after h.row v there (λ i. absurd (omega (arith, i.0))) done_members (λ u m. (still rest v u there m).0);
    }

  pub visiting_end : (after : List (Normal C)) → Visiting k n s empty τ before after → EqualImages n (images k after) τ
  visiting_end after h v l = h.row.done v (l, has_empty v)

-- a loop that collects a set, at v: s has of the variables below v those with q, and no other
abbrev pub Noted : ℕ → (ℕ → Bool) → VarSet → Type 0
Noted v q s = ((u : ℕ) → u < v → has s u ≡ q u) × ((u : ℕ) → v ≤ u → has s u ≡ false)

pub noted_start : (q : ℕ → Bool) → Noted 0 q empty
noted_start q = (λ u l. absurd (omega arith), λ u l. has_empty u)

pub noted_in : (v : ℕ) (q : ℕ → Bool) (s : VarSet) → Noted v q s → q v ≡ true → Noted (v + 1) q (symmetric_difference s (singleton v))
noted_in v q s h t = (
  λ u l. elim (cases_eq u v) [
    | inl e ↦ rw (e, t) (toggled_that s v ∙ ap not (h.1 v (omega arith)))
    | inr d ↦ toggled_other s v u d ∙ h.0 u (omega (arith, d))
  ],
  λ u l. toggled_other s v u (λ e. omega arith) ∙ h.1 u (omega arith),
)

pub noted_out : (v : ℕ) (q : ℕ → Bool) (s : VarSet) → Noted v q s → q v ≡ false → Noted (v + 1) q s
noted_out v q s h t = (
  λ u l. elim (cases_eq u v) [ inl e ↦ rw (e, t) (h.1 v (omega arith)) | inr d ↦ h.0 u (omega (arith, d)) ],
  λ u l. h.1 u (omega arith),
)

module _ {C : Type 0} (k : Operations C) (lawful : Lawful k) (n : ℕ) where
  same_equal : (a b : Normal C) → a ≡ b → SameNormal k a b
  same_equal a b e = rw e ((normal_laws lawful).same_self b)

  -- equal images solve the same
  pub solves_equal : (S : Substitution C → Type 0) (σ τ : Substitution C) → EqualImages n τ σ → Solves k n S σ → Solves k n S τ
  solves_equal S σ τ e = solves_as k lawful n S σ τ (λ v l. same_equal _ _ (sym (e v l)))

  -- no ledger: each variable is its own image
  pub row_starts : (row : List (Normal C)) → AllFree k n row → SolvedRow k n [] row
  row_starts row h = solves_equal _ (of_variable k) (images k row) h (solves_none k lawful n)

  -- one more entry of a ledger is one more normal form to clear
  pub solves_ledger : (rs : List (Normal C)) (a : Normal C) (σ : Substitution C)
      → Solves k n (λ θ. Every (Clears k n θ) rs × Clears k n θ a) σ → Solves k n (λ θ. Every (Clears k n θ) (rs ++ (a ∷ []))) σ
  solves_ledger rs a σ = solves_same k lawful n _ _ σ (λ θ o. ((every_more (Clears k n θ) rs a).1, (every_more (Clears k n θ) rs a).0))

  -- the remainder r, as a substitution made it up to sameness, with its pivot p
  module _ (S : Substitution C → Type 0) (σ : Substitution C) (h : Solves k n S σ) (a r : Normal C) (e : SameNormal k r (apply k n σ a)) (p : ℕ) (high : Highest r.vars p) where
    pub pivot_there : Highest (apply k n σ a).vars p
    pivot_there = subst (λ s. Highest s p) e.same_vars high

    pub solves_bound : (τ : Substitution C) → EqualImages n τ (binding k p r σ) → Solves k n (λ θ. S θ × Clears k n θ a) τ
    solves_bound τ q =
        solves_as k lawful n _ _ τ
        (λ v l. rw (q v l) (eliminated_by_same k lawful p _ r (σ v) ((normal_laws lawful).same_sym e)))
        (solves_binding k lawful n S σ h a p pivot_there)

  -- what remains gives the verdict
  pub judged : (row : List (Normal C)) (a : Normal C) (j : Judgement C) → Remains k n row a j
      → (rs : List (Normal C)) → SolvedRow k n rs row → Says k n rs a (judged_as j)
  judged row a Forced c rs h = follows k lawful n _ _ h a c
  judged row a Never c rs h = clashes k lawful n _ _ h a c.0 (λ z. c.1 (record { same_vars = c.0; same_constant = z }))
  judged row a (Open p r) c rs h =
      let there = pivot_there _ _ h a r c.0 p c.1 in
      let s = solves_binding k lawful n _ _ h a p there in
      ((_, s.over, s.meets.0, s.meets.1), (_, h.over, h.meets, unclear k lawful n _ _ h a p there))

  pub row_follows : (row : List (Normal C)) (a : Normal C) → Clears k n (images k row) a
      → (rs : List (Normal C)) → SolvedRow k n rs row → SolvedRow k n (rs ++ (a ∷ [])) row
  row_follows row a c rs h = solves_ledger rs a _ (solves_more k lawful n _ _ h a c)

  pub row_binds : (row row' : List (Normal C)) (a r : Normal C) (p : ℕ) → Remains k n row a (Open p r) → EqualImages n (images k row') (binding k p r (images k row))
      → (rs : List (Normal C)) → SolvedRow k n rs row → SolvedRow k n (rs ++ (a ∷ [])) row'
  row_binds row row' a r p c q rs h = solves_ledger rs a _ (solves_bound _ _ h a r c.0 p c.1 (images k row') q)

  -- one entry more of a ledger that can be cleared
  pub resolves_more : (ledger row row' : List (Normal C)) (i : ℕ) (x : Normal C) (out : Taken) → i < length ledger → x ≡ get_or ledger i x
      → ((rs : List (Normal C)) → SolvedRow k n rs row → Says k n rs x (taken_as out)) → ((rs : List (Normal C)) → SolvedRow k n rs row → Grown k n rs x row' out)
      → Resolves k n ledger (take i ledger) row → Resolves k n ledger (take (i + 1) ledger) row'
  resolves_more ledger row row' i x out l e says grown before θ o met =
      let more : take (i + 1) ledger ≡ take i ledger ++ (x ∷ []) = take_more ledger i x l ∙ ap (λ y. take i ledger ++ (y ∷ [])) (sym e) in
      let so_far = (every_more (Clears k n θ) (take i ledger) x).0 (rw more at (every_take (Clears k n θ) (i + 1) ledger met)) in
      let h = before θ o met in
      rw more (go out (says _ h) (grown _ h) so_far.0 so_far.1)
    where
      go : (t : Taken) → Says k n (take i ledger) x (taken_as t) → Grown k n (take i ledger) x row' t → Every (Clears k n θ) (take i ledger) → Clears k n θ x
          → SolvedRow k n (take i ledger ++ (x ∷ [])) row'
      go taken.Follows s g u v = g
      go taken.Clashes s g u v = absurd (s θ o u v)
      go (taken.Binds p c) s g u v = g
