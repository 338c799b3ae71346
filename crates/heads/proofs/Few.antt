-- How many marks and bindings there are at most: of every head and every trail, by the type of what holds them.
use Rattle.std.proofs.Common.{◌≤◌, length}
use Rattle.copy_vecs.proofs.Few.{items_few}
use Rattle.terms.specs.Limits.{most_variables}
use Rattle.heads.specs.declared.head.Head.{Head}
use Rattle.heads.specs.declared.trail.Trail.{Trail}
use Rattle.heads.specs.Limits.{most_marks}
use Rattle.heads.specs.Heads.{marks_of, bindings_of}

pub marks_few : (h : Head) → length (marks_of h) ≤ most_marks
marks_few h = items_few h.marks

pub bindings_few : (t : Trail) → length (bindings_of t) ≤ most_variables
bindings_few t = items_few t.bindings
