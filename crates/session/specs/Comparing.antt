-- Two sessions compared.
--   Compared k s t r   what the comparison of s and t gives: a closed one is refused, the first before the second;
--                      sizes may differ; else it tells whether the images are the same
--   Agreed k s t r     of whatever accounts they keep: the images are the same exactly when the same substitutions meet
--                      the standing equations of both
use Rattle.std.specs.Prelude.{◌≡◌, Ok, Err, Result, ◌≢◌}
use Rattle.kinds.specs.Kinds.{Operations}
use Rattle.refusals.specs.declared.Refusal.{Refusal}
use Rattle.refusals.specs.declared.Refusal.TheVariants.{Closed}
use Rattle.solving.specs.Substitutions.{SameSubstitution}
use Rattle.solving.specs.Equations.{SameSolutions}
use Rattle.steps.specs.Rows.{images}
use Rattle.session.specs.declared.Session.{Session}
use Rattle.session.specs.declared.compare.Comparison.{Comparison}
use Rattle.session.specs.declared.compare.Comparison.TheVariants.{Same, Different, Sizes}
use Rattle.session.specs.Accounts.{Account, opened}
use Rattle.session.specs.Keeping.{slots_of, size_of, Ready, Keeps}

-- the images of two sessions of one size are the same
abbrev pub SameImages : {C : Type 0} → Operations C → Session C → Session C → Type 0
SameImages k s t = SameSubstitution k (size_of s) (images k (slots_of s)) (images k (slots_of t))

pub data Compared {C : Type 0} (k : Operations C) (s t : Session C) : Result Comparison Refusal → Type 0 where
  first_closed : (Ready s → ⊥) → Compared k s t (Err Closed)
  second_closed : Ready s → (Ready t → ⊥) → Compared k s t (Err Closed)
  sizes : Ready s → Ready t → (size_of s ≢ size_of t) → Compared k s t (Ok Sizes)
  same : Ready s → Ready t → size_of s ≡ size_of t → SameImages k s t → Compared k s t (Ok Same)
  different : Ready s → Ready t → size_of s ≡ size_of t → (SameImages k s t → ⊥) → Compared k s t (Ok Different)

-- what a result says of two accounts
abbrev pub Tells : {C : Type 0} → Operations C → Account C → Account C → Result Comparison Refusal → Type 0
Tells k a b (Ok Sizes) = a.size ≡ b.size → ⊥
Tells k a b (Ok Same) = (a.size ≡ b.size) × SameSolutions k a.size a.standing b.standing
Tells k a b (Ok Different) = (a.size ≡ b.size) × (SameSolutions k a.size a.standing b.standing → ⊥)
Tells k a b (Err q) = ⊥

abbrev pub Agreed : {C : Type 0} → Operations C → Session C → Session C → Result Comparison Refusal → Type 0
Agreed {C} k s t r = (a b : Account C) → Keeps k s (opened a) → Keeps k t (opened b) → Tells k a b r
