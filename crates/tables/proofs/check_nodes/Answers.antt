use Rattle.std.proofs.lemmas.Result.{err_from_is_err_and}
use Rattle.tables.proofs.check_nodes.Goals as goal

pub returns-in_err-check_node : goal.returns-in_err-check_node
returns-in_err-check_node g c =
    let p = err_from_is_err_and c.from_residual.result c.from_residual.ensures.1 in
    rw (p.1, p.2)
    (record {
      place = c.loop-i.i;
      node = c.index-table-i.result;
      within = c.loop-i-test.true;
      here = c.index-table-i.is;
      fault = c.in_err-check_node.ensures;
      lower = c.loop-i.invariant;
    })
