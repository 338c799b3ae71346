-- The tokens of a line from a place on, one after another.
--   front_within   they end within the line
--   front_push     one token more at the end
--   whole_only     a line is one list of tokens at most
use Rattle.std.proofs.Common.{◌≡◌, ℕ, ◌≤◌, List, [], ◌∷◌, ◌++◌, length, Some, None, Ok, sym, refl, ap, subst, arith}
use Rattle.grammar.specs.Grammar.{Symbol}
use Rattle.tokens.specs.Tokens.{Found, Next, Front, none, more, Whole}
use Rattle.tokens.proofs.Nexts.{next_only, next_ahead}

pub front_within : {line : List ℕ} {a e : ℕ} {ts : List Symbol} → Front line a ts e → a ≤ length line → (a ≤ e) × (e ≤ length line)
front_within none h = (omega arith, h)
front_within (more s t n f) h = let l = next_ahead n in let r = front_within f l.2 in (omega arith, r.1)

pub front_push : {line : List ℕ} {a e m s : ℕ} {t : Symbol} {ts : List Symbol} → Front line a ts e → Next line e (Ok (Some (s, t, m))) → Front line a (ts ++ t ∷ []) m
front_push {s = s} {t = t} none n = more s t n none
front_push (more i u k f) n = more i u k (front_push f n)

same_found : {x y : ℕ × Symbol × ℕ} → ◌≡◌ {A = Found} (Ok (Some x)) (Ok (Some y)) → x ≡ y
same_found e = cc

front_only : {line : List ℕ} {a e f : ℕ} {ts us : List Symbol} → Front line a ts e → Next line e (Ok None) → Front line a us f → Next line f (Ok None) → ts ≡ us
front_only none x none y = refl
front_only none x (more s t n g) y = cc (next_only x n)
front_only (more s t n g) x none y = cc (next_only y n)
front_only {line} (more s t n g) x (more {e = f} {ts = us} i u k h) y =
    let q = same_found (next_only n k) in
    let v : t ≡ u = ap (λ z. z.1) q in
    let p = front_only g x (subst (λ j. Front line j us f) (sym (ap (λ z. z.2) q)) h) y in
    cc

pub whole_only : {line : List ℕ} {ts us : List Symbol} → Whole line ts → Whole line us → ts ≡ us
whole_only x y = front_only x.1 x.2 y.1 y.2
