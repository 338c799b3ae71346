use Rattle.std.proofs.Common.{◌-◌, length, Some, sym, ap, ◌∙◌, arith, length-set}
use Rattle.terms.specs.Limits.{most_variables}
use Rattle.tables.proofs.Tables.{low_variable, low_join, some_content, val, val_constant, val_variable, val_join}
use Rattle.tables.proofs.Counting.{begun, skipped, took, passed, ended}
use Rattle.tables.proofs.collect.Goals as goal

pub loop-i-init : goal.loop-i-init
loop-i-init g c = begun _ g.met.K.Kind.lawful _ _ _ c.requires.room _ c.zero-sum.ensures c.requires.bits

pub loop-i-preserved-in-Some-Constant : goal.loop-i-preserved-in-Some-Constant
loop-i-preserved-in-Some-Constant g c =
    let k = g.K.Kind.ops in
    let i = c.loop-i.i - 1 in
    rw c.join-sum.ensures
    (took k g.met.K.Kind.lawful (val k most_variables c.args.table.now c.requires.nodes) (length c.args.table.now) c.args.work.now c.requires.room
    c.loop-i.sum c.loop-i.work c.loop-i.i i (omega arith) (omega arith) c.loop-i.invariant c.if-work-i-ne0.true
    c.of_constant.result
    (val_constant k most_variables c.args.table.now c.requires.nodes i c.index-table-i.result c.in-Some-Constant.constant (omega arith) c.index-table-i.is
    (sym c.content.ensures ∙ c.in-Some-Constant.is ∙ ap Some c.in-Some-Constant.field-0-is) ∙ sym c.of_constant.ensures))

pub of_variable-requires : goal.of_variable-requires
of_variable-requires g c =
    low_variable most_variables (c.loop-i.i - 1) c.args.table.now c.requires.nodes c.index-table-i.result (omega arith) c.index-table-i.is
    c.in-Some-Variable.v (sym c.content.ensures ∙ c.in-Some-Variable.is ∙ ap Some c.in-Some-Variable.field-0-is)

pub loop-i-preserved-in-Some-Variable : goal.loop-i-preserved-in-Some-Variable
loop-i-preserved-in-Some-Variable g c =
    let k = g.K.Kind.ops in
    let i = c.loop-i.i - 1 in
    rw c.join-sum-in-Some-Variable.ensures
    (took k g.met.K.Kind.lawful (val k most_variables c.args.table.now c.requires.nodes) (length c.args.table.now) c.args.work.now c.requires.room
    c.loop-i.sum c.loop-i.work c.loop-i.i i (omega arith) (omega arith) c.loop-i.invariant c.if-work-i-ne0.true
    c.of_variable.result
    (val_variable k most_variables c.args.table.now c.requires.nodes i c.index-table-i.result c.in-Some-Variable.v (omega arith) c.index-table-i.is
    (sym c.content.ensures ∙ c.in-Some-Variable.is ∙ ap Some c.in-Some-Variable.field-0-is) ∙ sym c.of_variable.ensures))

pub flip-requires : goal.flip-requires
flip-requires g c =
    let low =
    low_join most_variables (c.loop-i.i - 1) c.args.table.now c.requires.nodes c.index-table-i.result (omega arith) c.index-table-i.is
    c.in-Some-Join.left c.in-Some-Join.right (sym c.content.ensures ∙ c.in-Some-Join.is ∙ ap Some c.in-Some-Join.field-0-is) in
    omega (arith, low.0, c.loop-i.auto.work, length-set c.loop-i.work (c.loop-i.i - 1) 0, c.requires.room)

pub flip-requires-in-Some-Join : goal.flip-requires-in-Some-Join
flip-requires-in-Some-Join g c =
    let low =
    low_join most_variables (c.loop-i.i - 1) c.args.table.now c.requires.nodes c.index-table-i.result (omega arith) c.index-table-i.is
    c.in-Some-Join.left c.in-Some-Join.right (sym c.content.ensures ∙ c.in-Some-Join.is ∙ ap Some c.in-Some-Join.field-0-is) in
    omega (arith, low.1, c.loop-i.auto.work, length-set c.loop-i.work (c.loop-i.i - 1) 0, c.flip.auto.work, c.requires.room)

pub loop-i-preserved-in-Some-Join : goal.loop-i-preserved-in-Some-Join
loop-i-preserved-in-Some-Join g c =
    let k = g.K.Kind.ops in
    let i = c.loop-i.i - 1 in
    let low =
    low_join most_variables (c.loop-i.i - 1) c.args.table.now c.requires.nodes c.index-table-i.result (omega arith) c.index-table-i.is
    c.in-Some-Join.left c.in-Some-Join.right (sym c.content.ensures ∙ c.in-Some-Join.is ∙ ap Some c.in-Some-Join.field-0-is) in
    rw (c.flip-in-Some-Join.ensures, c.flip.ensures)
    (passed k g.met.K.Kind.lawful (val k most_variables c.args.table.now c.requires.nodes) (length c.args.table.now) c.args.work.now c.requires.room
    c.loop-i.sum c.loop-i.work c.loop-i.i i (omega arith) (omega arith) c.loop-i.invariant c.if-work-i-ne0.true
    c.in-Some-Join.left c.in-Some-Join.right low.0 low.1
    (val_join k most_variables c.args.table.now c.requires.nodes i c.index-table-i.result c.in-Some-Join.left c.in-Some-Join.right (omega arith) c.index-table-i.is
    (sym c.content.ensures ∙ c.in-Some-Join.is ∙ ap Some c.in-Some-Join.field-0-is)))

pub loop-i-preserved-in-None : goal.loop-i-preserved-in-None
loop-i-preserved-in-None g c =
    absurd (some_content most_variables (c.loop-i.i - 1) c.args.table.now c.requires.nodes c.index-table-i.result (omega arith) c.index-table-i.is (sym c.content.ensures ∙ c.in-None.is))

pub loop-i-preserved : goal.loop-i-preserved
loop-i-preserved g c =
    skipped _ g.met.K.Kind.lawful _ _ _ c.requires.room c.loop-i.sum c.loop-i.work c.loop-i.i (c.loop-i.i - 1)
    (omega arith) (omega arith) c.loop-i.invariant c.if-work-i-ne0.false

pub returns : goal.returns
returns g c =
    let e = ended _ g.met.K.Kind.lawful _ _ _ c.requires.room c.loop-i.sum c.loop-i.work c.loop-i.i (omega arith) c.loop-i.invariant in
    record { work = e.1; sum = e.0 }
