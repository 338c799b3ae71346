-- A stack of terms builds an equation's terms.
use Rattle.std.proofs.Common.{◌≡◌, ℕ, List, [], ◌∷◌, ◌++◌, Some, None, Option, sym, refl, ap, ◌∙◌, append_assoc, append-nil}
use Rattle.std.specs.Option.{option_and_then}
use Rattle.grammar.specs.Grammar.{Symbol, variable, name, block, nought, xor, equals, opening, closing, Leaf, IsSum, IsPart, IsEquation, single, longer, item, nested, equation}
use Rattle.grammar.specs.Trees.{Tree, leaf, joined, sum_tree, part_tree, left_tree, right_tree, Unambiguous}

-- left side, sum so far, sums so far of the brackets around it
pub data Stack : Type 0 where
  stack : Option Tree → Option Tree → List (Option Tree) → Stack

abbrev pub put : Option Tree → Tree → Option Tree
put None t = Some t
put (Some l) t = Some (joined l t)

abbrev pub shut : Option Tree → Option Tree → List (Option Tree) → Stack
shut l n [] = stack l n []
shut l n (b ∷ bs) = stack l (option_and_then (put b) n) bs

abbrev pub feed : Stack → Symbol → Stack
feed (stack l n bs) (variable w) = stack l (put n (leaf (variable w))) bs
feed (stack l n bs) (name w) = stack l (put n (leaf (name w))) bs
feed (stack l n bs) (block w) = stack l (put n (leaf (block w))) bs
feed (stack l n bs) nought = stack l (put n (leaf nought)) bs
feed (stack l n bs) xor = stack l n bs
feed (stack l n bs) equals = stack n None bs
feed (stack l n bs) opening = stack l None (n ∷ bs)
feed (stack l n bs) closing = shut l n bs

abbrev pub feeds : Stack → List Symbol → Stack
feeds s [] = s
feeds s (t ∷ ts) = feeds (feed s t) ts

leaf_feeds : (t : Symbol) → Leaf t → (l n : Option Tree) (bs : List (Option Tree)) → feed (stack l n bs) t ≡ stack l (put n (leaf t)) bs
leaf_feeds (variable w) f l n bs = refl
leaf_feeds (name w) f l n bs = refl
leaf_feeds (block w) f l n bs = refl
leaf_feeds nought f l n bs = refl
leaf_feeds xor f l n bs = absurd f
leaf_feeds equals f l n bs = absurd f
leaf_feeds opening f l n bs = absurd f
leaf_feeds closing f l n bs = absurd f

mutual
  sum_feeds : {d : ℕ} {ts : List Symbol} (x : IsSum d ts) (l : Option Tree) (bs : List (Option Tree)) (us : List Symbol) → feeds (stack l None bs) (ts ++ us) ≡ feeds (stack l (Some (sum_tree x)) bs) us
  sum_feeds (single p) l bs us = part_feeds p l None bs us
  sum_feeds (longer {ts = ts} {us = vs} s p) l bs us =
      ap (feeds (stack l None bs)) (append_assoc ts (xor ∷ vs) us) ∙ (sum_feeds s l bs (xor ∷ (vs ++ us)) ∙ part_feeds p l (Some (sum_tree s)) bs us)

  part_feeds : {d : ℕ} {ts : List Symbol} (x : IsPart d ts) (l n : Option Tree) (bs : List (Option Tree)) (us : List Symbol) → feeds (stack l n bs) (ts ++ us) ≡ feeds (stack l (put n (part_tree x)) bs) us
  part_feeds (item t f) l n bs us = ap (λ s. feeds s us) (leaf_feeds t f l n bs)
  part_feeds (nested {ts = ts} s) l n bs us =
      ap (feeds (stack l None (n ∷ bs))) (append_assoc ts (closing ∷ []) us) ∙ sum_feeds s l (n ∷ bs) (closing ∷ us)

abbrev pub empty : Stack
empty = stack None None []

pub builds : {d : ℕ} {ts : List Symbol} (x : IsEquation d ts) → feeds empty ts ≡ stack (Some (left_tree x)) (Some (right_tree x)) []
builds (equation {us = us} s u) =
    sum_feeds s None [] (equals ∷ us) ∙ (ap (feeds (stack (Some (sum_tree s)) None [])) (sym (append-nil us)) ∙ sum_feeds u (Some (sum_tree s)) [] [])

pub unambiguous : Unambiguous
unambiguous ts d e x y = let p = sym (builds x) ∙ builds y in (cc, cc)
