use Rattle.std.proofs.Common.{◌≡◌, ℕ, ◌<◌, get_or}
use Rattle.refusals.specs.declared.Refusal.{Refusal}
use Rattle.terms.specs.declared.nodes.Node.{Node}
use Rattle.tables.specs.Tables.{NodeFault}
use Rattle.tables.proofs.check_nodes.Given as goal

abbrev pub invariant-loop-i : goal.invariant-loop-i
invariant-loop-i g l = (j : ℕ) → j < l.i → (x : Node g.row.K.Denot) → x ≡ get_or l.table j x → (q : Refusal) → NodeFault l.n j x q → ⊥
