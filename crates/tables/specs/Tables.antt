-- Term tables: the term of each node, and what makes a table and two sides unsound.
--   Input C            a table, its two sides and the number of working bytes
--   term_at k table i  the term of node i
--   NodeFault n i x q  the node x, as node i of a table for n variables, is at fault, and q says how
--   LowestFault        a node is at fault and no lower one is
--   Faultless          no node is at fault
--   Sized table        the table has a node, and not too many
--   Sound n i          the input i passes every check, for n variables
--   Unsound n i q      the first check that it does not pass refuses q
use Rattle.std.specs.Prelude.{◌≡◌, ℕ, zero, suc, ◌<◌, ◌≤◌, ◌⊎◌, List, [], ◌∷◌, ◌++◌, length, slice_index_or}
use Rattle.kinds.specs.Kinds.{Operations}
use Rattle.refusals.specs.declared.Refusal.{Refusal}
use Rattle.refusals.specs.declared.Refusal.TheVariants.{TableSize, WrongForm, WrongVariable, WrongOperand, NoSuchSide, ShortMemory}
use Rattle.terms.specs.declared.nodes.Node.{Node}
use Rattle.tables.specs.Limits.{most_nodes}
use Rattle.terms.specs.Terms.{Term, const, var, join}

pub record Input (C : Type 0) : Type 0 where
  pub table : List (Node C)
  pub left : ℕ
  pub right : ℕ
  pub room : ℕ  -- the number of working bytes

-- the term of a node of a form, given those of the nodes before it; fields that the form does not use are ignored
abbrev pub term_of : {C : Type 0} → Operations C → List (Term C) → Node C → ℕ → Term C
term_of k before x zero = const x.constant
term_of k before x (suc zero) = var x.variable
term_of k before x (suc (suc f)) = join (slice_index_or before x.left (const k.zero)) (slice_index_or before x.right (const k.zero))

abbrev pub terms_after : {C : Type 0} → Operations C → List (Term C) → List (Node C) → List (Term C)
terms_after k before [] = before
terms_after k before (x ∷ xs) = terms_after k (before ++ (term_of k before x x.form ∷ [])) xs

abbrev pub term_at : {C : Type 0} → Operations C → List (Node C) → ℕ → Term C
term_at k table i = slice_index_or (terms_after k [] table) i (const k.zero)

pub data NodeFault {C : Type 0} (n i : ℕ) (x : Node C) : Refusal → Type 0 where
  form : 2 < x.form → NodeFault n i x (WrongForm i)
  variable : x.form ≡ 1 → n ≤ x.variable → NodeFault n i x (WrongVariable i)
  operand : x.form ≡ 2 → (i ≤ x.left) ⊎ (i ≤ x.right) → NodeFault n i x (WrongOperand i)

pub record LowestFault {C : Type 0} (n : ℕ) (table : List (Node C)) (q : Refusal) : Type 0 where
  pub place : ℕ
  pub node : Node C
  pub within : place < length table
  pub here : node ≡ slice_index_or table place node
  pub fault : NodeFault n place node q
  pub lower : (i : ℕ) → i < place → (x : Node C) → x ≡ slice_index_or table i x → (p : Refusal) → NodeFault n i x p → ⊥

abbrev pub Faultless : {C : Type 0} → ℕ → List (Node C) → Type 0
Faultless {C} n table = (i : ℕ) → i < length table → (x : Node C) → x ≡ slice_index_or table i x → (q : Refusal) → NodeFault n i x q → ⊥

abbrev pub Sized : {C : Type 0} → List (Node C) → Type 0
Sized table = (1 ≤ length table) × (length table ≤ most_nodes)

pub data Unsound {C : Type 0} (n : ℕ) (i : Input C) : Refusal → Type 0 where
  size : (Sized i.table → ⊥) → Unsound n i TableSize
  room : Sized i.table → i.room < length i.table → Unsound n i (ShortMemory (length i.table))
  node : {q : Refusal} → Sized i.table → length i.table ≤ i.room → LowestFault n i.table q → Unsound n i q
  left : Sized i.table → length i.table ≤ i.room → Faultless n i.table
      → length i.table ≤ i.left → Unsound n i (NoSuchSide i.left)
  right : Sized i.table → length i.table ≤ i.room → Faultless n i.table
      → i.left < length i.table → length i.table ≤ i.right → Unsound n i (NoSuchSide i.right)

pub record Sound {C : Type 0} (n : ℕ) (i : Input C) : Type 0 where
  pub size : Sized i.table
  pub room : length i.table ≤ i.room
  pub nodes : Faultless n i.table
  pub left : i.left < length i.table
  pub right : i.right < length i.table
