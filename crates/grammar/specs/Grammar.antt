-- Equations as lists of tokens. A sum is parts with `^` between them; a part is a variable, a name, a block, `0`, or a
-- sum in brackets; an equation is a sum, `=` and a sum.
--   Symbol           a token as the grammar sees it, with its bytes in place of a reference to them
--   Leaf t           the token t is a part by itself
--   IsSum d ts       the tokens ts are a sum whose brackets nest at most d deep
--   IsPart d ts      they are one part of such a sum
--   IsEquation d ts  they are an equation whose brackets nest at most d deep
--   Begins d ts      some such equation begins with them
--   Never ts         no equation begins with them, however deep its brackets
--   OnlyDeeper d ts  some equation begins with them, and none whose brackets nest at most d deep
use Rattle.std.specs.Prelude.{ℕ, suc, List, [], ◌∷◌, ◌++◌}

pub data Symbol : Type 0 where
  variable : List ℕ → Symbol
  name : List ℕ → Symbol
  block : List ℕ → Symbol
  nought : Symbol
  xor : Symbol
  equals : Symbol
  opening : Symbol
  closing : Symbol

abbrev pub Leaf : Symbol → Type 0
Leaf (variable w) = Unit {0}
Leaf (name w) = Unit {0}
Leaf (block w) = Unit {0}
Leaf nought = Unit {0}
Leaf xor = ⊥
Leaf equals = ⊥
Leaf opening = ⊥
Leaf closing = ⊥

mutual
  pub data IsSum : ℕ → List Symbol → Type 0 where
    single : {d : ℕ} {ts : List Symbol} → IsPart d ts → IsSum d ts
    longer : {d : ℕ} {ts us : List Symbol} → IsSum d ts → IsPart d us → IsSum d (ts ++ xor ∷ us)

  pub data IsPart : ℕ → List Symbol → Type 0 where
    item : {d : ℕ} (t : Symbol) → Leaf t → IsPart d (t ∷ [])
    nested : {d : ℕ} {ts : List Symbol} → IsSum d ts → IsPart (suc d) (opening ∷ (ts ++ closing ∷ []))

pub data IsEquation : ℕ → List Symbol → Type 0 where
  equation : {d : ℕ} {ts us : List Symbol} → IsSum d ts → IsSum d us → IsEquation d (ts ++ equals ∷ us)

abbrev pub Begins : ℕ → List Symbol → Type 0
Begins d ts = (us : List Symbol) × IsEquation d (ts ++ us)

abbrev pub Never : List Symbol → Type 0
Never ts = (e : ℕ) → Begins e ts → ⊥

abbrev pub OnlyDeeper : ℕ → List Symbol → Type 0
OnlyDeeper d ts = (Begins d ts → ⊥) × ((e : ℕ) × Begins e ts)
