-- The samples of sessions, call by call.
use Rattle.std.proofs.Common.{◌≡◌, ℕ, zero, suc, ◌+◌, ◌<◌, true, false, T, ltb, ◌⊎◌, List, [], ◌∷◌, ◌++◌, length, get_or, sym, refl, subst, inl, inr, arith, ltb→lt}
use Rattle.std.proofs.lemmas.Bool.{cases_eq, both_ways}
use Rattle.refusals.specs.declared.Refusal.{Refusal}
use Rattle.kinds.specs.declared.names.Names.{Names}
use Rattle.kinds.specs.Kinds.{SameConstant}
use Rattle.kinds.specs.Names.{names}
use Rattle.kinds.specs.NameLaws.{names_lawful}
use Rattle.terms.specs.declared.nodes.Node.{Node}
use Rattle.terms.specs.declared.normal.Normal.{Normal}
use Rattle.terms.specs.Nodes.{constant_node, variable_node, join_node}
use Rattle.terms.specs.Sets.{has, empty, singleton, symmetric_difference, equal, Highest}
use Rattle.terms.specs.Terms.{Term, join}
use Rattle.terms.specs.Sums.{gather}
use Rattle.terms.specs.NormalForms.{of_variable, normal}
use Rattle.tables.specs.Tables.{NodeFault, form, variable, operand, Faultless, Sound}
use Rattle.tables.proofs.Tables.{Fine, term_in}
use Rattle.steps.specs.declared.verdict.Verdict.TheVariants.{Forced, Open}
use Rattle.solving.specs.Substitutions.{Substitution, apply}
use Rattle.solving.specs.Equations.{Equation, WithinEquation, Every, joined_sides}
use Rattle.solving.specs.SolvedForms.{Solved, binding}
use Rattle.solving.specs.Theorems.{remainder}
use Rattle.solving.proofs.Applying.{apply_inside}
use Rattle.solving.proofs.Theorems.{empty_solved, follows_on, clashes_with, binds}
use Rattle.session.specs.Accounts.{Account, opened, new, with_standing, with_marks, equation, Event, Run, start, more, post_clash, post_taken, query_told, marked, no_mark, returned, shown}
use Rattle.samples.specs.Samples.{a, b, x0}
use Rattle.samples.specs.Sessions.{table, memory, x1, input_of, at_x0, at_x1, at_x0_x1, at_a, at_b, at_x0_a, at_zero, posts, clashes, asks, shows, marks, returns, lacks_mark, session_samples, Replays}

-- the table is sound, whatever the sides

-- the nodes of a list, numbered from j on, have no fault
abbrev AllFine : ℕ → ℕ → List (Node Names) → Type 0
AllFine n j [] = Unit {0}
AllFine n j (x ∷ xs) = Fine n j x × AllFine n (suc j) xs

-- a node that is fine has none
no_fault : (n i : ℕ) (x : Node Names) → Fine n i x → (q : Refusal) → NodeFault n i x q → ⊥
no_fault n i x f q (form g) = omega (arith, f.form)
no_fault n i x f q (variable g l) = omega (arith, f.variable g)
no_fault n i x f q (operand g (inl l)) = omega (arith, f.left g)
no_fault n i x f q (operand g (inr l)) = omega (arith, f.right g)

fine_there : (n j : ℕ) (xs : List (Node Names)) → AllFine n j xs → (i m : ℕ) → m ≡ j + i → i < length xs → (x : Node Names) → x ≡ get_or xs i x → Fine n m x
fine_there n j [] f i m s l x e = absurd (omega arith)
fine_there n j (y ∷ ys) f zero m s l x e = let p : j ≡ m = omega arith in subst (Fine n m) (sym e) (subst (λ i. Fine n i y) p f.0)
fine_there n j (y ∷ ys) f (suc i) m s l x e = fine_there n (suc j) ys f.1 i m (omega arith) (omega arith) x e

-- the nodes of the three forms
constant_fine : (n i : ℕ) (c : Names) → Fine n i (constant_node c)
constant_fine n i c = record { form = omega arith; variable = λ e. absurd (omega arith); left = λ e. absurd (omega arith); right = λ e. absurd (omega arith) }

variable_fine : (n i v : ℕ) → v < n → Fine n i (variable_node names v)
variable_fine n i v b = record { form = omega arith; variable = λ e. b; left = λ e. absurd (omega arith); right = λ e. absurd (omega arith) }

join_fine : (n i l r : ℕ) → l < i → r < i → Fine n i (join_node names l r)
join_fine n i l r b c = record { form = omega arith; variable = λ e. absurd (omega arith); left = λ e. b; right = λ e. c }

table_fine : AllFine 2 0 table
table_fine = (
  variable_fine 2 0 0 (omega arith),
  (variable_fine 2 1 1 (omega arith), (join_fine 2 2 0 1 (omega arith) (omega arith), (constant_fine 2 3 _, (constant_fine 2 4 _, (join_fine 2 5 0 3 (omega arith) (omega arith), (constant_fine 2 6 _, tt)))))),
)

table_faultless : Faultless 2 table
table_faultless i l x e = no_fault 2 i x (fine_there 2 0 table table_fine i i (omega arith) l x e)

-- the bounds of the samples are tests, which numbers pass by computing
abbrev Below : ℕ → ℕ → Type 0
Below m n = T (ltb m n)

-- the sides are nodes of the table
abbrev Sides : ℕ → ℕ → Type 0
Sides i j = Below i 7 × Below j 7

sound : (i j : ℕ) → Sides i j → Sound 2 (input_of i j)
sound i j s = record { size = (omega arith, omega arith); room = omega arith; nodes = table_faultless; left = ltb→lt i 7 s.0; right = ltb→lt j 7 s.1 }

abbrev said : ℕ → ℕ → Equation Names
said i j = equation names (input_of i j)

said_within : (i j : ℕ) → Sides i j → WithinEquation 2 (said i j)
said_within i j s = (term_in names 2 table table_faultless i (ltb→lt i 7 s.0), term_in names 2 table table_faultless j (ltb→lt j 7 s.1))

-- what is left of the equation of two nodes
abbrev left_of : Substitution Names → ℕ → ℕ → Normal Names
left_of σ i j = remainder names 2 σ (said i j)

-- and p, of two variables, is its highest
abbrev Top : Substitution Names → ℕ → ℕ → ℕ → Type 0
Top σ i j p = (has (left_of σ i j).vars p ≡ true) × ((p ≡ 1) ⊎ (has (left_of σ i j).vars 1 ≡ false))

-- calls, one after another

abbrev account : List (Equation Names) → List ℕ → Account Names
account es ms = with_marks (with_standing (new memory 2) es) ms

-- the calls of l lead to the equations es, with the solved form σ, and the marks ms
record Reached (l : List (Event Names)) (es : List (Equation Names)) (ms : List ℕ) (σ : Substitution Names) : Type 0 where
  run : Run names memory (opened (new memory 2)) l (opened (account es ms))
  solved : Solved names 2 es σ

replays : {l : List (Event Names)} {es : List (Equation Names)} {ms : List ℕ} {σ : Substitution Names} → Reached l es ms σ → Replays l
replays h = (_, h.run)

fresh : Reached [] [] [] (of_variable names)
fresh = record { run = start; solved = empty_solved names names_lawful 2 }

module _ {l : List (Event Names)} {es : List (Equation Names)} {ms : List ℕ} {σ : Substitution Names} (h : Reached l es ms σ) where
  highest : (i j p : ℕ) → Top σ i j p → Highest (left_of σ i j).vars p
  highest i j p top = (
    top.0,
    λ u y.
        let low : u < 2 = apply_inside names names_lawful 2 σ h.solved.over (joined_sides names (said i j)) u y in
        elim top.1 [
          | inl e ↦ omega arith
          | inr n ↦ elim (cases_eq u 1) [ inl e ↦ absurd (both_ways (has (left_of σ i j).vars u) (rw e n) y) | inr d ↦ omega arith ]
        ],
  )

  post_follows : (i j : ℕ) → Sides i j → Below (length es) 4 → (left_of σ i j).vars ≡ empty → SameConstant names (left_of σ i j).constant names.zero
      → Reached (l ++ (posts i j ∷ [])) (es ++ (said i j ∷ [])) ms σ
  post_follows i j s room v c =
      let q = follows_on names names_lawful 2 es σ h.solved (said i j) (said_within i j s) (record { same_vars = v; same_constant = c }) in
      record {
        run = more h.run (post_taken (sound i j s) (ltb→lt (length es) 4 room) σ (h.solved.over, h.solved.meets) (q.0 σ h.solved.over h.solved.meets));
        solved = q.1;
      }

  post_binds : (i j p : ℕ) → Sides i j → Below (length es) 4 → Top σ i j p
      → Reached (l ++ (posts i j ∷ [])) (es ++ (said i j ∷ [])) ms (binding names p (left_of σ i j) σ)
  post_binds i j p s room top =
      let q = binds names names_lawful 2 es σ h.solved (said i j) (said_within i j s) p (highest i j p top) in
      let y = q.0 in
      record { run = more h.run (post_taken (sound i j s) (ltb→lt (length es) 4 room) y.0 (y.1, y.2) y.3); solved = q.2 }

  post_clashes : (i j : ℕ) → Sides i j → Below (length es) 4 → (left_of σ i j).vars ≡ empty
      → (SameConstant names (left_of σ i j).constant names.zero → ⊥) → Reached (l ++ (clashes i j ∷ [])) es ms σ
  post_clashes i j s room v d = record {
    run = more h.run (post_clash (sound i j s) (ltb→lt (length es) 4 room) (λ θ y. clashes_with names names_lawful 2 es σ h.solved (said i j) (said_within i j s) v d θ y.0 y.1));
    solved = h.solved;
  }

  query_forced : (i j : ℕ) → Sides i j → (left_of σ i j).vars ≡ empty → SameConstant names (left_of σ i j).constant names.zero
      → Reached (l ++ (asks i j Forced ∷ [])) es ms σ
  query_forced i j s v c =
      let q = follows_on names names_lawful 2 es σ h.solved (said i j) (said_within i j s) (record { same_vars = v; same_constant = c }) in
      record { run = more h.run (query_told (sound i j s) (λ θ y. q.0 θ y.0 y.1)); solved = h.solved }

  query_open : (i j p : ℕ) → Sides i j → Top σ i j p → Reached (l ++ (asks i j Open ∷ [])) es ms σ
  query_open i j p s top =
      let q = binds names names_lawful 2 es σ h.solved (said i j) (said_within i j s) p (highest i j p top) in
      let y = q.0 in
      let n = q.1 in
      record { run = more h.run (query_told (sound i j s) ((y.0, (y.1, y.2), y.3), (n.0, (n.1, n.2), n.3))); solved = h.solved }

  show_image : (v : ℕ) (t : Term Names) → Below v 2 → (normal names t).vars ≡ (σ v).vars → SameConstant names (normal names t).constant (σ v).constant
      → Reached (l ++ (shows v t ∷ [])) es ms σ
  show_image v t b e c = record { run = more h.run (shown (ltb→lt v 2 b) σ h.solved (record { same_vars = e; same_constant = c })); solved = h.solved }

  mark_set : Below (length ms) 32 → Reached (l ++ (marks ∷ [])) es (ms ++ (length es ∷ [])) σ
  mark_set b = record { run = more h.run (marked (ltb→lt (length ms) 32 b)); solved = h.solved }

  return_refused : ms ≡ [] → Reached (l ++ (lacks_mark ∷ [])) es ms σ
  return_refused e = record { run = more h.run (no_mark e); solved = h.solved }

-- to a mark with no equation
return_empty : {l : List (Event Names)} {es : List (Equation Names)} {ms : List ℕ} {σ : Substitution Names} → Reached l es (ms ++ (0 ∷ [])) σ
    → Reached (l ++ (returns ∷ [])) [] ms (of_variable names)
return_empty {ms = ms} h = record { run = more h.run (returned 0 ms refl); solved = empty_solved names names_lawful 2 }

-- the samples, where everything is computed

-- the images once X0 ^ X1 = a is taken
abbrev bound : Substitution Names
bound = binding names 1 (left_of (of_variable names) at_x0_x1 at_a) (of_variable names)

linked : Reached (posts at_x0_x1 at_a ∷ []) (said at_x0_x1 at_a ∷ []) [] bound
unfolding apply gather has empty singleton symmetric_difference
linked = post_binds fresh at_x0_x1 at_a 1 (tt, tt) tt (refl, inl refl)

pub samples_replay : Every Replays session_samples
unfolding apply gather has empty singleton symmetric_difference equal
samples_replay =
    let zeros = post_follows fresh at_zero at_zero (tt, tt) tt refl tt in
    let zeros_0 = show_image zeros 0 x0 tt refl tt in
    let zeros_1 = show_image zeros_0 1 x1 tt refl tt in
    let nonzero = post_clashes fresh at_a at_zero (tt, tt) tt refl (λ e. e) in
    let linked_1 = show_image linked 1 (join x0 a) tt refl tt in
    let linked_0 = show_image linked_1 0 x0 tt refl tt in
    let apart = post_clashes linked at_x0 at_x1 (tt, tt) tt refl (λ e. e) in
    let forced = query_forced linked at_x1 at_x0_a (tt, tt) refl tt in
    let undecided = query_open forced at_x0 at_a 0 (tt, tt) (refl, inr refl) in
    let solved_both = post_binds linked at_x0 at_b 0 (tt, tt) tt (refl, inr refl) in
    let solved_0 = show_image solved_both 0 b tt refl tt in
    let solved_1 = show_image solved_0 1 (join a b) tt refl tt in
    let marked_first = mark_set fresh tt in
    let taken_after = post_binds marked_first at_x0 at_a 0 (tt, tt) tt (refl, inr refl) in
    let back = show_image (return_empty taken_after) 0 x0 tt refl tt in
    let no_other = return_refused back refl in
    (replays zeros_1, (replays nonzero, (replays linked_0, (replays apart, (replays undecided, (replays solved_1, (replays no_other, tt)))))))
