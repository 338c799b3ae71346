-- Lists of equations with the ledger entries that record them.
use Rattle.std.proofs.Common.{ℕ, zero, suc, List, [], ◌∷◌, ◌++◌, take}
use Rattle.kinds.specs.Kinds.{Operations}
use Rattle.terms.specs.declared.normal.Normal.{Normal}
use Rattle.terms.specs.NormalForms.{SameNormal}
use Rattle.solving.specs.Equations.{Equation, joined_sides}
use Rattle.solving.specs.Theorems.{Records}

module _ {C : Type 0} (k : Operations C) where
  pub records_more : (es : List (Equation C)) (rs : List (Normal C)) (e : Equation C) (x : Normal C) → Records k es rs → SameNormal k (joined_sides k e) x
      → Records k (es ++ (e ∷ [])) (rs ++ (x ∷ []))
  records_more [] [] e x q s = (s, tt)
  records_more [] (a ∷ rs) e x q s = elim q [ ]
  records_more (d ∷ es) [] e x q s = elim q [ ]
  records_more (d ∷ es) (a ∷ rs) e x q s = (q.0, records_more es rs e x q.1 s)

  pub records_take : (m : ℕ) (es : List (Equation C)) (rs : List (Normal C)) → Records k es rs → Records k (take m es) (take m rs)
  records_take zero es rs q = tt
  records_take (suc m) [] [] q = tt
  records_take (suc m) [] (a ∷ rs) q = elim q [ ]
  records_take (suc m) (d ∷ es) [] q = elim q [ ]
  records_take (suc m) (d ∷ es) (a ∷ rs) q = (q.0, records_take m es rs q.1)
