-- The two sides of an equation as trees, by its derivation.
--   Tree           a token that is a part by itself, or two trees joined
--   sum_tree x     the tree of a sum, its parts joined from left to right; brackets leave no trace
--   part_tree x    the tree of a part
--   left_tree x, right_tree x   the trees of an equation's sides
--   Unambiguous    an equation has one tree on each side, whatever its derivation and its bound
use Rattle.std.specs.Prelude.{◌≡◌, ℕ, List}
use Rattle.grammar.specs.Grammar.{Symbol, IsSum, IsPart, IsEquation, single, longer, item, nested, equation}

pub data Tree : Type 0 where
  leaf : Symbol → Tree
  joined : Tree → Tree → Tree

abbrev mutual
  pub sum_tree : {d : ℕ} {ts : List Symbol} → IsSum d ts → Tree
  sum_tree (single p) = part_tree p
  sum_tree (longer s p) = joined (sum_tree s) (part_tree p)

  pub part_tree : {d : ℕ} {ts : List Symbol} → IsPart d ts → Tree
  part_tree (item t l) = leaf t
  part_tree (nested s) = sum_tree s

abbrev pub left_tree : {d : ℕ} {ts : List Symbol} → IsEquation d ts → Tree
left_tree (equation s u) = sum_tree s

abbrev pub right_tree : {d : ℕ} {ts : List Symbol} → IsEquation d ts → Tree
right_tree (equation s u) = sum_tree u

abbrev pub Unambiguous : Type 0
Unambiguous = (ts : List Symbol) (d e : ℕ) (x : IsEquation d ts) (y : IsEquation e ts) → (left_tree x ≡ left_tree y) × (right_tree x ≡ right_tree y)
