-- The nodes of a term table.
--   constant_node c, variable_node k v, join_node k l r   a node of each form, its unused fields zero
--   content_of x    what the node x is, by its form; nothing where the form is none of the three
use Rattle.std.specs.Prelude.{ℕ, zero, suc, Some, None, Option}
use Rattle.kinds.specs.Kinds.{Operations}
use Rattle.terms.specs.declared.nodes.Node.{Node}
use Rattle.terms.specs.declared.nodes.Content.{Content}
use Rattle.terms.specs.declared.nodes.Content.TheVariants.{Constant, Variable, Join}

-- the three forms: 0 a constant, 1 a variable, 2 the join of two lower nodes
abbrev pub constant_node : {C : Type 0} → C → Node C
constant_node c = record { form = 0; variable = 0; left = 0; right = 0; constant = c }

abbrev pub variable_node : {C : Type 0} → Operations C → ℕ → Node C
variable_node k v = record { form = 1; variable = v; left = 0; right = 0; constant = k.zero }

abbrev pub join_node : {C : Type 0} → Operations C → ℕ → ℕ → Node C
join_node k l r = record { form = 2; variable = 0; left = l; right = r; constant = k.zero }

abbrev pub content_by : {C : Type 0} → Node C → ℕ → Option (Content C)
content_by x zero = Some (Constant x.constant)
content_by x (suc zero) = Some (Variable x.variable)
content_by x (suc (suc zero)) = Some (Join x.left x.right)
content_by x (suc (suc (suc f))) = None

abbrev pub content_of : {C : Type 0} → Node C → Option (Content C)
content_of x = content_by x x.form
