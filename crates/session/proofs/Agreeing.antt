-- The images of two sessions are the same just where the solutions are.
use Rattle.std.proofs.Common.{◌≡◌, ◌↔◌, Result, sym, ◌∙◌}
use Rattle.kinds.specs.Kinds.{Operations, Lawful}
use Rattle.refusals.specs.declared.Refusal.{Refusal}
use Rattle.solving.specs.Equations.{SameSolutions}
use Rattle.steps.specs.Rows.{images}
use Rattle.solving.proofs.Theorems.{canonical_form}
use Rattle.session.specs.declared.Session.{Session}
use Rattle.session.specs.declared.compare.Comparison.{Comparison}
use Rattle.session.specs.Accounts.{Account, opened}
use Rattle.session.specs.Keeping.{slots_of, size_of, Keeps}
use Rattle.session.specs.Comparing.{SameImages, Compared, first_closed, second_closed, sizes, same, different, Agreed}
use Rattle.session.proofs.Keeping.{kept_ready, kept_size, kept_solved}

module _ {C : Type 0} (k : Operations C) (lawful : Lawful k) (s t : Session C) where
  images_solutions : (a b : Account C) → Keeps k s (opened a) → Keeps k t (opened b) → size_of s ≡ size_of t
      → SameImages k s t ↔ SameSolutions k a.size a.standing b.standing
  images_solutions a b p q e =
      rw (kept_size k s a p)
      (canonical_form k lawful (size_of s) a.standing b.standing (images k (slots_of s)) (images k (slots_of t)) (kept_solved k s a p) (rw e (kept_solved k t b q)))

  -- so what a comparison of the images gives, it says of the accounts
  pub agreed : {r : Result Comparison Refusal} → Compared k s t r → Agreed k s t r
  agreed (first_closed shut) a b p q = shut (kept_ready k s a p)
  agreed (second_closed _ shut) a b p q = shut (kept_ready k t b q)
  agreed (sizes _ _ d) a b p q = λ e. d (sym (kept_size k s a p) ∙ e ∙ kept_size k t b q)
  agreed (same _ _ e i) a b p q = (kept_size k s a p ∙ e ∙ sym (kept_size k t b q), (images_solutions a b p q e).0 i)
  agreed (different _ _ e d) a b p q = (kept_size k s a p ∙ e ∙ sym (kept_size k t b q), λ i. d ((images_solutions a b p q e).1 i))
