-- Equations between terms, and the substitutions that meet them.
--   Equation C             two terms
--   WithinEquation n e     the variables of e are below n
--   Meets k θ e            both sides of e, once each variable is replaced by θ, have the same normal form
--   Every P xs             P holds of every element of xs
--   MeetsAll k θ es        θ meets every equation of es
--   SameSolutions k n es es'  the same substitutions over n variables meet both lists
--   joined_sides k e       the normal form of the join of e's sides
--   Clears k n θ a         θ makes the normal form a zero
use Rattle.std.specs.Prelude.{ℕ, ◌↔◌, List, [], ◌∷◌}
use Rattle.kinds.specs.Kinds.{Operations}
use Rattle.terms.specs.declared.normal.Normal.{Normal}
use Rattle.terms.specs.Terms.{Term, join, Within}
use Rattle.terms.specs.NormalForms.{SameNormal, zero_form, value, normal}
use Rattle.solving.specs.Substitutions.{Substitution, apply, Over}

pub record Equation (C : Type 0) : Type 0 where
  pub left : Term C
  pub right : Term C

abbrev pub WithinEquation : {C : Type 0} → ℕ → Equation C → Type 0
WithinEquation n e = Within n e.left × Within n e.right

abbrev pub Meets : {C : Type 0} → Operations C → Substitution C → Equation C → Type 0
Meets k θ e = SameNormal k (value k θ e.left) (value k θ e.right)

abbrev pub Every : {A : Type 0} → (A → Type 0) → List A → Type 0
Every P [] = Unit {0}
Every P (x ∷ xs) = P x × Every P xs

abbrev pub MeetsAll : {C : Type 0} → Operations C → Substitution C → List (Equation C) → Type 0
MeetsAll k θ es = Every (Meets k θ) es

abbrev pub SameSolutions : {C : Type 0} → Operations C → ℕ → List (Equation C) → List (Equation C) → Type 0
SameSolutions {C} k n es es' = (θ : Substitution C) → Over n θ → MeetsAll k θ es ↔ MeetsAll k θ es'

abbrev pub joined_sides : {C : Type 0} → Operations C → Equation C → Normal C
joined_sides k e = normal k (join e.left e.right)

abbrev pub Clears : {C : Type 0} → Operations C → ℕ → Substitution C → Normal C → Type 0
Clears k n θ a = SameNormal k (apply k n θ a) (zero_form k)
