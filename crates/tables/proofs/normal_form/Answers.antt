use Rattle.std.proofs.Common.{length, arith}
use Rattle.terms.specs.Limits.{most_variables}
use Rattle.terms.specs.NormalForms.{normal}
use Rattle.tables.specs.Tables.{term_at}
use Rattle.terms.proofs.NormalForms.{normal_laws}
use Rattle.tables.proofs.Tables.{faultless_more}
use Rattle.tables.proofs.Checking.{late}
use Rattle.tables.proofs.Counting.{zero_bits, flipped_bits, one_side, cleared_after, cleared_flipped}
use Rattle.tables.proofs.normal_form.Goals as goal

pub collect-requires : goal.collect-requires
collect-requires g c =
    let table = c.args.table.now in
    let ok = c.in_ok-check.ensures.result in
    let cleared = c.in_ok-check.ensures.work.0 (ok.0, ok.1.size, ok.1.room) in
    record {
      nodes = faultless_more c.args.n most_variables table ok.0.1 ok.1.nodes;
      room = omega (arith, ok.1.room, c.check.auto.work, c.flip.auto.work);
      bits = rw c.flip.ensures (flipped_bits (length table) c.check.new.work c.args.side ok.1.left (omega (arith, ok.1.room, c.check.auto.work)) (zero_bits (length table) c.check.new.work cleared.zeroed));
    }

pub returns : goal.returns
returns g c =
    let k = g.K.Kind.ops in
    let lawful = g.met.K.Kind.lawful in
    let table = c.args.table.now in
    let ok = c.in_ok-check.ensures.result in
    let cleared = c.in_ok-check.ensures.work.0 (ok.0, ok.1.size, ok.1.room) in
    let side = one_side k lawful (λ i. normal g.K.Kind.ops (term_at g.K.Kind.ops c.args.table.now i)) (length table) c.check.new.work c.args.side ok.1.left (omega (arith, ok.1.room, c.check.auto.work)) cleared.zeroed in
    record {
      result = (ok.0, ok.1, (normal_laws lawful).same_trans (rw c.flip.ensures at c.collect.ensures.sum) side);
      work = late _ _ _ (ok.0, ok.1.size, ok.1.room) (cleared_after _ _ _ _ cleared (cleared_flipped _ _ _ _ ok.1.left (rw c.flip.ensures at c.collect.ensures.work)));
    }
