use Rattle.std.proofs.Common.{Some, ◌∙◌, sym, ap, inl, inr, arith}
use Rattle.tables.specs.Tables.{form, variable, operand}
use Rattle.tables.proofs.Tables.{no_content, variable_content, join_content}
use Rattle.tables.proofs.check_node.Goals as goal

pub returns-in-None : goal.returns-in-None
returns-in-None g c = form (no_content c.args.node (sym c.content.ensures ∙ c.in-None.is))

pub returns-in-Some-Variable : goal.returns-in-Some-Variable
returns-in-Some-Variable g c =
    let q = variable_content c.args.node c.in-Some-Variable.v (sym c.content.ensures ∙ c.in-Some-Variable.is ∙ ap Some c.in-Some-Variable.field-0-is) in
    variable q.0 (omega (arith, q.1, c.if-v-n.true))

pub returns-in-Some-Join : goal.returns-in-Some-Join
returns-in-Some-Join g c =
    let q = join_content c.args.node c.in-Some-Join.left c.in-Some-Join.right (sym c.content.ensures ∙ c.in-Some-Join.is ∙ ap Some c.in-Some-Join.field-0-is) in
    operand q.0 (elim c.if-right-i.either [ inl l ↦ inl (omega (arith, q.1)) | inr l ↦ inr (omega (arith, q.2)) ])
