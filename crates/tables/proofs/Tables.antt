-- The terms of a table's nodes, node by node.
use Rattle.std.proofs.Common.{◌≡◌, ℕ, zero, suc, Some, None, ◌+◌, ◌<◌, ◌≤◌, List, [], ◌∷◌, ◌++◌, length, get_or, sym, refl, ap, ◌∙◌, subst, ap₂, inl, inr, add-zero, zero-add, arith}
use Rattle.std.proofs.lemmas.List.{get_or_append_left, get_or_at, length_push}
use Rattle.std.proofs.lemmas.Bool.{cases_lt}
use Rattle.kinds.specs.Kinds.{Operations}
use Rattle.refusals.specs.declared.Refusal.{Refusal}
use Rattle.terms.specs.declared.nodes.Node.{Node}
use Rattle.terms.specs.declared.normal.Normal.{Normal}
use Rattle.terms.specs.Terms.{Term, const, join, Within}
use Rattle.terms.specs.NormalForms.{of_constant, of_variable, joined, normal}
use Rattle.tables.specs.Tables.{term_of, terms_after, term_at, NodeFault, form, variable, operand, Faultless}
use Rattle.terms.specs.declared.nodes.Content.TheVariants.{Constant, Variable, Join}
use Rattle.terms.specs.Nodes.{content_by, content_of}

-- what a node's freedom from faults says
pub record Fine {C : Type 0} (n i : ℕ) (x : Node C) : Type 0 where
  pub form : x.form ≤ 2
  pub variable : x.form ≡ 1 → x.variable < n
  pub left : x.form ≡ 2 → x.left < i
  pub right : x.form ≡ 2 → x.right < i

pub fine : {C : Type 0} (n i : ℕ) (x : Node C) → ((q : Refusal) → NodeFault n i x q → ⊥) → Fine n i x
fine n i x h = record {
  form = elim (cases_lt 2 x.form) [ inl l ↦ absurd (h _ (form l)) | inr l ↦ l ];
  variable = λ e. elim (cases_lt x.variable n) [ inl l ↦ l | inr l ↦ absurd (h _ (variable e l)) ];
  left = λ e. elim (cases_lt x.left i) [ inl l ↦ l | inr l ↦ absurd (h _ (operand e (inl l))) ];
  right = λ e. elim (cases_lt x.right i) [ inl l ↦ l | inr l ↦ absurd (h _ (operand e (inr l))) ];
}

pub fine_at : {C : Type 0} (n i : ℕ) (table : List (Node C)) (x : Node C) → Faultless n table → i < length table → x ≡ get_or table i x → Fine n i x
fine_at n i table x h l e = fine n i x (h i l x e)

pub some_at : {A : Type 0} (xs : List A) (i : ℕ) → i < length xs → (x : A) × (x ≡ get_or xs i x)
some_at [] i l = absurd (omega arith)
some_at (x ∷ xs) zero l = (x, refl)
some_at (x ∷ xs) (suc i) l = some_at xs i (omega arith)

pub faultless_more : {C : Type 0} (m n : ℕ) (table : List (Node C)) → m ≤ n → Faultless m table → Faultless n table
faultless_more m n table more h i l x e q (form f) = h i l x e q (form f)
faultless_more m n table more h i l x e q (variable f v) = h i l x e q (variable f (omega arith))
faultless_more m n table more h i l x e q (operand f o) = h i l x e q (operand f o)

-- what is known of a node from what it is
module _ {C : Type 0} (x : Node C) where
  pub no_content : content_of x ≡ None → 2 < x.form
  no_content h = go x.form h
    where
      go : (f : ℕ) → content_by x f ≡ None → 2 < f
      go zero h = absurd (cc)
      go (suc zero) h = absurd (cc)
      go (suc (suc zero)) h = absurd (cc)
      go (suc (suc (suc f))) h = omega arith

  pub constant_content : (c : C) → content_of x ≡ Some (Constant c) → (x.form ≡ 0) × (x.constant ≡ c)
  constant_content c h = go x.form h
    where
      go : (f : ℕ) → content_by x f ≡ Some (Constant c) → (f ≡ 0) × (x.constant ≡ c)
      go zero h = (refl, cc)
      go (suc zero) h = absurd (cc)
      go (suc (suc zero)) h = absurd (cc)
      go (suc (suc (suc f))) h = absurd (cc)

  pub variable_content : (v : ℕ) → content_of x ≡ Some (Variable v) → (x.form ≡ 1) × (x.variable ≡ v)
  variable_content v h = go x.form h
    where
      go : (f : ℕ) → content_by x f ≡ Some (Variable v) → (f ≡ 1) × (x.variable ≡ v)
      go zero h = absurd (cc)
      go (suc zero) h = (refl, cc)
      go (suc (suc zero)) h = absurd (cc)
      go (suc (suc (suc f))) h = absurd (cc)

  pub join_content : (a b : ℕ) → content_of x ≡ Some (Join a b) → (x.form ≡ 2) × (x.left ≡ a) × (x.right ≡ b)
  join_content a b h = go x.form h
    where
      go : (f : ℕ) → content_by x f ≡ Some (Join a b) → (f ≡ 2) × (x.left ≡ a) × (x.right ≡ b)
      go zero h = absurd (cc)
      go (suc zero) h = absurd (cc)
      go (suc (suc zero)) h = (refl, cc, cc)
      go (suc (suc (suc f))) h = absurd (cc)

-- what a sound node says of what it is
module _ {C : Type 0} (n i : ℕ) (table : List (Node C)) (sound : Faultless n table) (x : Node C) (l : i < length table) (e : x ≡ get_or table i x) where
  pub low_variable : (v : ℕ) → content_of x ≡ Some (Variable v) → v < n
  low_variable v h =
      let q = variable_content x v h in
      let low : x.variable < n = (fine_at n i table x sound l e).variable q.0 in
      omega (arith, q.1)

  pub low_join : (a b : ℕ) → content_of x ≡ Some (Join a b) → (a < i) × (b < i)
  low_join a b h =
      let q = join_content x a b h in
      let s = fine_at n i table x sound l e in
      let left : x.left < i = s.left q.0 in
      let right : x.right < i = s.right q.0 in
      (omega (arith, q.1), omega (arith, q.2))

  pub some_content : content_of x ≡ None → ⊥
  some_content h = omega (arith, no_content x h, (fine_at n i table x sound l e).form)

module _ {C : Type 0} (k : Operations C) where
  abbrev d : Term C
  d = const k.zero

  kept : (before : List (Term C)) (xs : List (Node C)) (j : ℕ) → j < length before → get_or (terms_after k before xs) j d ≡ get_or before j d
  kept before [] j l = refl
  kept before (x ∷ xs) j l =
      let t = term_of k before x x.form in
      kept (before ++ (t ∷ [])) xs j (omega (arith, length_push before t)) ∙ get_or_append_left before (t ∷ []) d j l

  -- a term of those before is that of all, since these are kept
  term_kept : (before all : List (Term C)) (x : Node C) (f : ℕ) → (1 < f → (get_or all x.left d ≡ get_or before x.left d) × (get_or all x.right d ≡ get_or before x.right d))
      → term_of k before x f ≡ term_of k all x f
  term_kept before all x zero h = refl
  term_kept before all x (suc zero) h = refl
  term_kept before all x (suc (suc f)) h = let q = h (omega arith) in ap₂ join (sym q.0) (sym q.1)

  terms_at : (before : List (Term C)) (xs : List (Node C)) (j : ℕ) (x : Node C) → j < length xs → x ≡ get_or xs j x
      → (1 < x.form → (x.left < length before + j) × (x.right < length before + j))
      → get_or (terms_after k before xs) (length before + j) d ≡ term_of k (terms_after k before xs) x x.form
  terms_at before [] j x l e low = absurd (omega arith)
  terms_at before (y ∷ ys) zero x l e low =
      let t = term_of k before x x.form in
      let all = terms_after k (before ++ (t ∷ [])) ys in
      let more = length_push before t in
      let early : (i : ℕ) → i < length before → get_or all i d ≡ get_or before i d = λ i b. kept (before ++ (t ∷ [])) ys i (omega (arith, more)) ∙ get_or_append_left before (t ∷ []) d i b in
      let here : get_or all (length before) d ≡ t = kept (before ++ (t ∷ [])) ys (length before) (omega (arith, more)) ∙ get_or_at before t [] d (length before) refl in
      let same : t ≡ term_of k all x x.form = term_kept before all x x.form (λ g. (early x.left (omega (arith, (low g).0)), early x.right (omega (arith, (low g).1)))) in
      rw (add-zero, ← e) (here ∙ same)
  terms_at before (y ∷ ys) (suc j) x l e low =
      let t = term_of k before y y.form in
      let more : length (before ++ (t ∷ [])) ≡ length before + 1 = length_push before t in
      let shift : length (before ++ (t ∷ [])) + j ≡ length before + suc j = omega arith in
      rw (← shift) (terms_at (before ++ (t ∷ [])) ys j x (omega arith) e (λ g. (omega (arith, (low g).0), omega (arith, (low g).1))))

  module _ (n : ℕ) (table : List (Node C)) (sound : Faultless n table) where
    abbrev pub val : ℕ → Normal C
    val i = normal k (term_at k table i)

    pub term_is : (i : ℕ) (x : Node C) → i < length table → x ≡ get_or table i x → term_at k table i ≡ term_of k (terms_after k [] table) x x.form
    term_is i x l e =
        let s = fine_at n i table x sound l e in
        let at = terms_at [] table i x l e (λ g. let two : x.form ≡ 2 = omega (arith, s.form) in (omega (arith, s.left two), omega (arith, s.right two))) in
        rw zero-add at at

    -- the normal form of a node, by what the node is
    by_form : (i : ℕ) (x : Node C) (f : ℕ) → i < length table → x ≡ get_or table i x → x.form ≡ f → val i ≡ normal k (term_of k (terms_after k [] table) x f)
    by_form i x f l e h = ap (normal k) (term_is i x l e) ∙ ap (λ m. normal k (term_of k (terms_after k [] table) x m)) h

    pub val_constant : (i : ℕ) (x : Node C) (c : C) → i < length table → x ≡ get_or table i x → content_of x ≡ Some (Constant c) → val i ≡ of_constant c
    val_constant i x c l e h = let q = constant_content x c h in by_form i x 0 l e q.0 ∙ ap of_constant q.1

    pub val_variable : (i : ℕ) (x : Node C) (v : ℕ) → i < length table → x ≡ get_or table i x → content_of x ≡ Some (Variable v) → val i ≡ of_variable k v
    val_variable i x v l e h = let q = variable_content x v h in by_form i x 1 l e q.0 ∙ ap (of_variable k) q.1

    pub val_join : (i : ℕ) (x : Node C) (a b : ℕ) → i < length table → x ≡ get_or table i x → content_of x ≡ Some (Join a b) → val i ≡ joined k (val a) (val b)
    val_join i x a b l e h = let q = join_content x a b h in by_form i x 2 l e q.0 ∙ ap₂ (λ (v w : ℕ). joined k (val v) (val w)) q.1 q.2

    -- the variables of the terms are below n
    within_of : (all : List (Term C)) (i : ℕ) (x : Node C) (f : ℕ) → (f ≡ 1 → x.variable < n) → (1 < f → Within n (get_or all x.left d) × Within n (get_or all x.right d)) → Within n (term_of k all x f)
    within_of all i x zero v h = tt
    within_of all i x (suc zero) v h = v refl
    within_of all i x (suc (suc f)) v h = let q = h (omega arith) in (q.0, q.1)

    term_within : (m i : ℕ) → i < m → i < length table → Within n (term_at k table i)
    term_within zero i l b = absurd (omega arith)
    term_within (suc m) i l b =
        let y = some_at table i b in
        let x = y.0 in
        let s = fine_at n i table x sound b y.1 in
        subst (Within n) (sym (term_is i x b y.1)) (within_of (terms_after k [] table) i x x.form s.variable (λ g.
        let two : x.form ≡ 2 = omega (arith, s.form) in
        (term_within m x.left (omega (arith, s.left two)) (omega (arith, s.left two)), term_within m x.right (omega (arith, s.right two)) (omega (arith, s.right two)))))

    pub term_in : (i : ℕ) → i < length table → Within n (term_at k table i)
    term_in i b = term_within (suc i) i (omega arith) b
