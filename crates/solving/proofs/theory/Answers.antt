use Rattle.solving.proofs.Theorems.{empty_solved, follows_on, clashes_with, binds, one_of_three, solved_or_none, canonical_form, respects, recorded}
use Rattle.solving.proofs.theory.Goals as goal

pub returns : goal.returns
returns g c =
    let k = g.K.Kind.ops in
    let l = g.met.K.Kind.lawful in
    record {
      empty = empty_solved k l;
      follows = follows_on k l;
      clashes = clashes_with k l;
      binds = binds k l;
      one_of_three = one_of_three k l;
      solved_or_none = solved_or_none k l;
      canonical = canonical_form k l;
      respects = respects k l;
      recorded = recorded k l;
    }
