-- What comes next in a line is what `next` computes, and nothing else.
--   next_right   what is computed comes next
--   next_is      what comes next is what is computed
--   next_only    only one thing comes next
--   next_ahead   a token that comes next stands from the place on, within the line
use Rattle.std.proofs.Common.{◌≡◌, ℕ, ◌+◌, ◌<◌, ◌≤◌, Bool, true, false, cond, eqb, ltb, List, length, get_or, Some, Ok, Err, sym, refl, ap, ◌∙◌, subst, arith, ltb-false, ltb-true, le-ltb, lt-ltb, eq-eqb, ne_eqb, eqb-true}
use borrow.Author.Tests.{eqb-false}
use Rattle.std.proofs.lemmas.Bool.Decides.{nat_tests}
use Rattle.refusals.specs.declared.Refusal.{Refusal}
use Rattle.refusals.specs.declared.Refusal.TheVariants.{NoToken, WrongLength}
use Rattle.grammar.specs.Grammar.{Symbol, variable, name, block, nought, xor, equals, opening, closing}
use Rattle.words.specs.Limits.{longest_word}
use Rattle.tokens.specs.Limits.{block_digits}
use Rattle.tokens.specs.Classes.{between, capital, small, hex, in_variable, in_name, space}
use Rattle.tokens.specs.Tokens.{span, Spaces, Run, Sign, Stray, TokenAt, is_sign, is_variable, is_name, is_block, FaultAt, no_token, long_variable, long_name, wrong_block, Found, Next, blank, token, fault}
use Rattle.tokens.specs.Next.{run_end, sign_at, word_at, block_at, token_at, next_from, next}
use Rattle.tokens.proofs.Stretches.{run_from, run_ends}

by_test : {A : Type 0} (P : A → Type 0) (c : Bool) {x y : A} → (c ≡ true → P x) → (c ≡ false → P y) → P (cond c x y)
by_test P true f g = f refl
by_test P false f g = g refl

pub no_sign_of : (b : ℕ) → (b ≡ 94 → ⊥) → (b ≡ 61 → ⊥) → (b ≡ 40 → ⊥) → (b ≡ 41 → ⊥) → (b ≡ 48 → ⊥) → (t : Symbol) → Sign b t → ⊥
no_sign_of b x e o c n (variable w) h = h
no_sign_of b x e o c n (name w) h = h
no_sign_of b x e o c n (block w) h = h
no_sign_of b x e o c n nought h = n h
no_sign_of b x e o c n xor h = x h
no_sign_of b x e o c n equals h = e h
no_sign_of b x e o c n opening h = o h
no_sign_of b x e o c n closing h = c h

module _ (line : List ℕ) (a s : ℕ) (r : Run space line a s) (w : s < length line) where
  sign_right : (t : Symbol) → Sign (get_or line s 0) t → Next line a (sign_at s t)
  sign_right t h = token s t (s + 1) r.stretch (is_sign t w h)

  -- a word, by what it is where it fits and where it is too long
  word_right : {p : ℕ → Bool} (t : List ℕ → Symbol) → ((e : ℕ) → Run p line (s + 1) e → e ≤ s + longest_word → TokenAt line s (t (span line s e)) e) → ((e : ℕ) → Run p line (s + 1) e → s + longest_word < e → FaultAt line s (WrongLength s)) → Next line a (word_at line s (run_end p line (s + 1)) t)
  word_right {p} t fits long =
      let e = run_end p line (s + 1) in
      let x = run_from p line (s + 1) (omega arith) in
      by_test (Next line a) (ltb (s + longest_word) e) (λ l. fault s (WrongLength s) r.stretch (long e x (ltb-true _ _ l))) (λ l. token s _ e r.stretch (fits e x (ltb-false _ _ l)))

  block_right : get_or line s 0 ≡ 35 → Next line a (block_at line s (run_end hex line (s + 1)))
  block_right h =
      let e = run_end hex line (s + 1) in
      let x = run_from hex line (s + 1) (omega arith) in
      by_test (Next line a) (eqb e (s + 1 + block_digits)) (λ l. token s (block (span line (s + 1) e)) e r.stretch (is_block e h x (eqb-true _ _ l))) (λ l. fault s (WrongLength s) r.stretch (wrong_block e h x (eqb-false _ _ l)))

  at_right : Next line a (token_at line s (get_or line s 0))
  at_right =
      let b = get_or line s 0 in
      let N = Next line a in
      by_test N (eqb b 94) (λ h. sign_right xor (eqb-true b 94 h)) (λ x.
      by_test N (eqb b 61) (λ h. sign_right equals (eqb-true b 61 h)) (λ q.
      by_test N (eqb b 40) (λ h. sign_right opening (eqb-true b 40 h)) (λ o.
      by_test N (eqb b 41) (λ h. sign_right closing (eqb-true b 41 h)) (λ c.
      by_test N (eqb b 48) (λ h. sign_right nought (eqb-true b 48 h)) (λ n.
      by_test N (capital b) (λ h. word_right variable (λ e. is_variable e h) (λ e. long_variable e h)) (λ l.
      by_test N (small b) (λ h. word_right name (λ e. is_name e h) (λ e. long_name e h)) (λ m.
      by_test N (eqb b 35) (λ h. block_right (eqb-true b 35 h)) (λ k.
      fault s (NoToken s) r.stretch (no_token w (record { no_space = r.longest w; no_sign = no_sign_of b (eqb-false b 94 x) (eqb-false b 61 q) (eqb-false b 40 o) (eqb-false b 41 c) (eqb-false b 48 n); no_capital = l; no_small = m; no_hash = eqb-false b 35 k }))))))))))

pub next_right : (line : List ℕ) (a : ℕ) → a ≤ length line → Next line a (next line a)
next_right line a w =
    let s = run_end space line a in
    let r = run_from space line a w in
    by_test (Next line a) (eqb s (length line)) (λ h. blank (subst (Spaces line a) (eqb-true s (length line) h) r.stretch)) (λ h. at_right line a s r (let n = eqb-false s (length line) h in omega (arith, r.stretch.within)))

-- the ranges of the letters
pub range_in : (low high b : ℕ) → low ≤ b → b ≤ high → between low high b ≡ true
range_in low high b l h = grind (arith, nat_tests)

pub below_range : (low high b : ℕ) → b < low → between low high b ≡ false
below_range low high b l = grind (arith, nat_tests)

pub above_range : (low high b : ℕ) → high < b → between low high b ≡ false
above_range low high b h = grind (arith, nat_tests)

-- what begins a token is no space
sign_no_space : (b : ℕ) (t : Symbol) → Sign b t → space b ≡ false
sign_no_space b (variable w) h = absurd h
sign_no_space b (name w) h = absurd h
sign_no_space b (block w) h = absurd h
sign_no_space b nought h = ap space h
sign_no_space b xor h = ap space h
sign_no_space b equals h = ap space h
sign_no_space b opening h = ap space h
sign_no_space b closing h = ap space h

capital_no_space : (b : ℕ) → capital b ≡ true → space b ≡ false
capital_no_space b h = grind (arith, nat_tests)

small_no_space : (b : ℕ) → small b ≡ true → space b ≡ false
small_no_space b h = grind (arith, nat_tests)

-- what is computed at a place goes by the byte there
module _ (line : List ℕ) (s b : ℕ) where
  at_sign : (t : Symbol) → Sign b t → token_at line s b ≡ sign_at s t
  at_sign (variable w) h = absurd h
  at_sign (name w) h = absurd h
  at_sign (block w) h = absurd h
  at_sign nought h = ap (token_at line s) h
  at_sign xor h = ap (token_at line s) h
  at_sign equals h = ap (token_at line s) h
  at_sign opening h = ap (token_at line s) h
  at_sign closing h = ap (token_at line s) h

  at_capital : capital b ≡ true → token_at line s b ≡ word_at line s (run_end in_variable line (s + 1)) variable
  at_capital h = grind (arith, nat_tests)

  at_small : small b ≡ true → token_at line s b ≡ word_at line s (run_end in_name line (s + 1)) name
  at_small h = grind (arith, nat_tests)

  at_stray : Stray b → token_at line s b ≡ Err (NoToken s)
  at_stray x =
      grind (arith, nat_tests, x.no_sign xor, x.no_sign equals, x.no_sign opening, x.no_sign closing, x.no_sign nought)

module _ {line : List ℕ} {s : ℕ} where
  word_fits : {p : ℕ → Bool} (e : ℕ) (t : List ℕ → Symbol) → Run p line (s + 1) e → e ≤ s + longest_word → word_at line s (run_end p line (s + 1)) t ≡ Ok (Some (s, t (span line s e), e))
  word_fits {p} e t r h = ap (λ i. word_at line s i t) (run_ends p line r) ∙ rw (le-ltb (s + longest_word) e h)

  word_long : {p : ℕ → Bool} (e : ℕ) (t : List ℕ → Symbol) → Run p line (s + 1) e → s + longest_word < e → word_at line s (run_end p line (s + 1)) t ≡ Err (WrongLength s)
  word_long {p} e t r h = ap (λ i. word_at line s i t) (run_ends p line r) ∙ rw (lt-ltb (s + longest_word) e h)

  token_is : {t : Symbol} {e : ℕ} → TokenAt line s t e → token_at line s (get_or line s 0) ≡ Ok (Some (s, t, e))
  token_is (is_sign t w h) = at_sign line s (get_or line s 0) t h
  token_is (is_variable e h r l) = at_capital line s (get_or line s 0) h ∙ word_fits e variable r l
  token_is (is_name e h r l) = at_small line s (get_or line s 0) h ∙ word_fits e name r l
  token_is (is_block e h r l) = ap (token_at line s) h ∙ (ap (block_at line s) (run_ends hex line r) ∙ rw (eq-eqb e (s + 1 + block_digits) l))

  fault_is : {q : Refusal} → FaultAt line s q → token_at line s (get_or line s 0) ≡ Err q
  fault_is (no_token w x) = at_stray line s (get_or line s 0) x
  fault_is (long_variable e h r l) = at_capital line s (get_or line s 0) h ∙ word_long e variable r l
  fault_is (long_name e h r l) = at_small line s (get_or line s 0) h ∙ word_long e name r l
  fault_is (wrong_block e h r l) = ap (token_at line s) h ∙ (ap (block_at line s) (run_ends hex line r) ∙ rw (ne_eqb e (s + 1 + block_digits) l))

  run_inside : {p : ℕ → Bool} {e : ℕ} → Run p line (s + 1) e → s < length line
  run_inside r = let x = r.stretch in omega (arith, x.begins, x.within)

  token_no_space : {t : Symbol} {e : ℕ} → TokenAt line s t e → space (get_or line s 0) ≡ false
  token_no_space (is_sign t w h) = sign_no_space _ t h
  token_no_space (is_variable e h r l) = capital_no_space _ h
  token_no_space (is_name e h r l) = small_no_space _ h
  token_no_space (is_block e h r l) = ap space h

  fault_no_space : {q : Refusal} → FaultAt line s q → space (get_or line s 0) ≡ false
  fault_no_space (no_token w x) = x.no_space
  fault_no_space (long_variable e h r l) = capital_no_space _ h
  fault_no_space (long_name e h r l) = small_no_space _ h
  fault_no_space (wrong_block e h r l) = ap space h

  fault_inside : {q : Refusal} → FaultAt line s q → s < length line
  fault_inside (no_token w x) = w
  fault_inside (long_variable e h r l) = run_inside r
  fault_inside (long_name e h r l) = run_inside r
  fault_inside (wrong_block e h r l) = run_inside r

  run_ahead : {p : ℕ → Bool} {e : ℕ} → Run p line (s + 1) e → (s < e) × (e ≤ length line)
  run_ahead r = let x = r.stretch in (omega (arith, x.begins), x.within)

  pub token_ahead : {t : Symbol} {e : ℕ} → TokenAt line s t e → (s < e) × (e ≤ length line)
  token_ahead (is_sign t w h) = (omega arith, omega arith)
  token_ahead (is_variable e h r l) = run_ahead r
  token_ahead (is_name e h r l) = run_ahead r
  token_ahead (is_block e h r l) = run_ahead r

-- at a place within the line that is no space, what comes next goes by the byte there
next_at : {line : List ℕ} {a s : ℕ} → Spaces line a s → s < length line → space (get_or line s 0) ≡ false → next line a ≡ token_at line s (get_or line s 0)
next_at {line} {a} {s} x w n =
    let g = run_ends space line {a = a} {e = s} (record { stretch = x; longest = λ _. n }) in
    let l : s ≡ length line → ⊥ = λ q. omega arith in
    ap (next_from line) g ∙ rw (ne_eqb s (length line) l)

pub next_is : {line : List ℕ} {a : ℕ} {x : Found} → Next line a x → next line a ≡ x
next_is {line} {a} (blank b) =
    let g = run_ends space line {a = a} {e = length line} (record { stretch = b; longest = λ h. absurd (omega arith) }) in
    ap (next_from line) g ∙ rw (eq-eqb (length line) (length line) refl)
next_is (token s t e b x) = let l = token_ahead x in next_at b (omega arith) (token_no_space x) ∙ token_is x
next_is (fault s q b x) = next_at b (fault_inside x) (fault_no_space x) ∙ fault_is x

pub next_only : {line : List ℕ} {a : ℕ} {x y : Found} → Next line a x → Next line a y → x ≡ y
next_only n m = sym (next_is n) ∙ next_is m

pub next_ahead : {line : List ℕ} {a s e : ℕ} {t : Symbol} → Next line a (Ok (Some (s, t, e))) → (a ≤ s) × (s < e) × (e ≤ length line)
next_ahead (token s t e b x) = let l = token_ahead x in (b.begins, l.0, l.1)
