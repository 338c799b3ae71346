use Rattle.std.proofs.Common.{arith}
use Rattle.std.proofs.lemmas.Result.{err_from_is_err_and}
use Rattle.terms.specs.Limits.{InRange}
use Rattle.tables.specs.Tables.{Sized, size, room, node, left, right}
use Rattle.tables.specs.Calls.{bad_size, unsound, input_of}
use Rattle.tables.proofs.Checking.{past, early, late, front_cleared}
use Rattle.tables.proofs.Sides.check.Goals as goal

pub returns-then-n-eq0 : goal.returns-then-n-eq0
returns-then-n-eq0 g c =
    let bad : InRange c.args.n → ⊥ = λ s. omega (arith, c.then-n-eq0.either, s.0, s.1) in
    record { result = bad_size bad; work = early _ _ (λ p. bad p.0) }

pub returns-then-count-eq0 : goal.returns-then-count-eq0
returns-then-count-eq0 g c =
    let range : InRange c.args.n = (omega (arith, c.if-n-eq0.false), omega arith) in
    let bad : Sized c.args.self.now.table.now → ⊥ = λ s. omega (arith, c.then-count-eq0.either, s.0, s.1) in
    record { result = unsound range (size bad); work = early _ _ (λ p. bad p.1) }

pub returns-then-work-count : goal.returns-then-work-count
returns-then-work-count g c =
    let range : InRange c.args.n = (omega (arith, c.if-n-eq0.false), omega arith) in
    let sized : Sized c.args.self.now.table.now = (omega (arith, c.if-count-eq0.false), omega arith) in
    record { result = unsound range (room sized c.if-work-count.true); work = early _ _ (λ p. omega (arith, p.2)) }

pub returns-in_err-check_nodes : goal.returns-in_err-check_nodes
returns-in_err-check_nodes g c =
    let p = past c.args.n (input_of c.args.self.now _) c.if-n-eq0.false c.if-n-gt-MOST_VARIABLES.false c.if-count-eq0.false c.if-count-gt-MOST_NODES.false c.if-work-count.false in
    let e = err_from_is_err_and c.from_residual.result c.from_residual.ensures.1 in
    record {
      result = rw (e.1, e.2) (unsound p.0 (node p.1 p.2 c.in_err-check_nodes.ensures));
      work = late _ _ _ p (front_cleared _ _ _ p.2 (c.fill.ensures.after (λ y h. h)));
    }

pub returns-then-self-count : goal.returns-then-self-count
returns-then-self-count g c =
    let p = past c.args.n (input_of c.args.self.now _) c.if-n-eq0.false c.if-n-gt-MOST_VARIABLES.false c.if-count-eq0.false c.if-count-gt-MOST_NODES.false c.if-work-count.false in
    record {
      result = unsound p.0 (left p.1 p.2 c.in_ok-check_nodes.ensures c.if-self-count.true);
      work = late _ _ _ p (front_cleared _ _ _ p.2 (c.fill.ensures.after (λ y h. h)));
    }

pub returns-then-self-count-2 : goal.returns-then-self-count-2
returns-then-self-count-2 g c =
    let p = past c.args.n (input_of c.args.self.now _) c.if-n-eq0.false c.if-n-gt-MOST_VARIABLES.false c.if-count-eq0.false c.if-count-gt-MOST_NODES.false c.if-work-count.false in
    record {
      result = unsound p.0 (right p.1 p.2 c.in_ok-check_nodes.ensures c.if-self-count.false c.if-self-count-2.true);
      work = late _ _ _ p (front_cleared _ _ _ p.2 (c.fill.ensures.after (λ y h. h)));
    }
