use Rattle.std.proofs.Common.{length, inl, inr, arith}
use Rattle.std.proofs.lemmas.Bool.{cases_eq}
use Rattle.std.proofs.lemmas.List.{length_push}
use Rattle.std.proofs.lemmas.Slice.Zip.{zip_turn}
use Rattle.terms.specs.NormalForms.{of_variable}
use Rattle.rows.proofs.same_images.Goals as goal

pub returns-then-not-same : goal.returns-then-not-same
returns-then-not-same g c = λ h.
    let at = zip_turn c.args.row.now c.args.other.now c.loop-ours.yielded c.into_iter-ours-iterator.result c.loop-ours.ours-iterator c.next.new.self c.next.result (cc) (cc) c.loop-ours.yielded_by _ c.in-Some.is c.next.ensures.steps in
    let i = length c.loop-ours.yielded in
    c.if-not-same.ensures (rw (at.2 (of_variable g.K.Kind.ops i), at.3 (of_variable g.K.Kind.ops i)) (h i (omega (arith, at.0, at.1))))

pub loop-ours-preserved : goal.loop-ours-preserved
loop-ours-preserved g c = λ u l.
    let at = zip_turn c.args.row.now c.args.other.now c.loop-ours.yielded c.into_iter-ours-iterator.result c.loop-ours.ours-iterator c.next.new.self c.next.result (cc) (cc) c.loop-ours.yielded_by _ c.in-Some.is c.next.ensures.steps in
    let i = length c.loop-ours.yielded in
    elim (cases_eq u i) [
      | inl e ↦ rw (e, ← at.2 (of_variable g.K.Kind.ops i), ← at.3 (of_variable g.K.Kind.ops i)) c.if-not-same.ensures
      | inr d ↦ c.loop-ours.invariant u (omega (arith, d, length_push c.loop-ours.yielded (c.in-Some.ours, c.in-Some.theirs)))
    ]
