-- The tokens of a line, a list of bytes; `slice_index line i` is its byte at i. A token runs as far as its bytes allow, and
-- spaces may stand before it.
--   span line s e      the bytes from s to e
--   Stretch p line a e   every byte from a to e passes p
--   Spaces line a s    the bytes from a to s are spaces
--   Run p line a e     the longest stretch from a on ends at e: the byte at e, if any, does not pass p
--   Sign b t           the byte b is by itself the token t
--   Stray b            the byte b is no space and begins no token
--   TokenAt line s t e   the token t stands from s to e
--   FaultAt line s q   what begins at s is no token, and q says why
--   Found              what comes next: nothing; a place, a token and its end; or a refusal
--   Next line a r      from a on, after spaces, r comes next
--   Front line a ts e  from a on the tokens ts stand one after another, and the last ends at e
--   Whole line ts      the line is the tokens ts and spaces
--   symbol_of t, erased r   a token and a result of the code, with references replaced by their bytes
use Rattle.std.specs.Prelude.{◌≡◌, ℕ, ◌+◌, ◌<◌, ◌≤◌, Bool, true, false, List, [], ◌∷◌, length, Some, None, Ok, Err, Option, Result, ◌≢◌, slice_index, slice_range}
use Rattle.refusals.specs.declared.Refusal.{Refusal}
use Rattle.refusals.specs.declared.Refusal.TheVariants.{NoToken, WrongLength}
use Rattle.grammar.specs.Grammar.{Symbol, variable, name, block, nought, xor, equals, opening, closing}
use Rattle.tokens.specs.declared.Token.{Token}
use Rattle.tokens.specs.declared.Token.TheVariants.{Variable, Name, Block, Zero, Xor, Equals, Open, Close}
use Rattle.tokens.specs.declared.Lexeme.{Lexeme}
use Rattle.words.specs.Limits.{longest_word}
use Rattle.tokens.specs.Limits.{block_digits}
use Rattle.tokens.specs.Classes.{capital, small, hex, in_variable, in_name, space}

abbrev pub span : List ℕ → ℕ → ℕ → List ℕ
span line s e = slice_range line s e

pub record Stretch (p : ℕ → Bool) (line : List ℕ) (a e : ℕ) : Type 0 where
  pub begins : a ≤ e
  pub within : e ≤ length line
  pub passes : (i : ℕ) → a ≤ i → i < e → p (slice_index line i) ≡ true

abbrev pub Spaces : List ℕ → ℕ → ℕ → Type 0
Spaces line a s = Stretch space line a s

pub record Run (p : ℕ → Bool) (line : List ℕ) (a e : ℕ) : Type 0 where
  pub stretch : Stretch p line a e
  pub longest : e < length line → p (slice_index line e) ≡ false

abbrev pub Sign : ℕ → Symbol → Type 0
Sign b (variable w) = ⊥
Sign b (name w) = ⊥
Sign b (block w) = ⊥
Sign b nought = b ≡ 48
Sign b xor = b ≡ 94
Sign b equals = b ≡ 61
Sign b opening = b ≡ 40
Sign b closing = b ≡ 41

pub record Stray (b : ℕ) : Type 0 where
  pub no_space : space b ≡ false
  pub no_sign : (t : Symbol) → Sign b t → ⊥
  pub no_capital : capital b ≡ false
  pub no_small : small b ≡ false
  pub no_hash : b ≡ 35 → ⊥

pub data TokenAt (line : List ℕ) (s : ℕ) : Symbol → ℕ → Type 0 where
  is_sign : (t : Symbol) → s < length line → Sign (slice_index line s) t → TokenAt line s t (s + 1)
  is_variable : (e : ℕ) → capital (slice_index line s) ≡ true → Run in_variable line (s + 1) e → e ≤ s + longest_word → TokenAt line s (variable (span line s e)) e
  is_name : (e : ℕ) → small (slice_index line s) ≡ true → Run in_name line (s + 1) e → e ≤ s + longest_word → TokenAt line s (name (span line s e)) e
  is_block : (e : ℕ) → slice_index line s ≡ 35 → Run hex line (s + 1) e → e ≡ s + 1 + block_digits → TokenAt line s (block (span line (s + 1) e)) e

pub data FaultAt (line : List ℕ) (s : ℕ) : Refusal → Type 0 where
  no_token : s < length line → Stray (slice_index line s) → FaultAt line s (NoToken s)
  long_variable : (e : ℕ) → capital (slice_index line s) ≡ true → Run in_variable line (s + 1) e → s + longest_word < e → FaultAt line s (WrongLength s)
  long_name : (e : ℕ) → small (slice_index line s) ≡ true → Run in_name line (s + 1) e → s + longest_word < e → FaultAt line s (WrongLength s)
  wrong_block : (e : ℕ) → slice_index line s ≡ 35 → Run hex line (s + 1) e → (e ≢ s + 1 + block_digits) → FaultAt line s (WrongLength s)

abbrev pub Found : Type 0
Found = Result (Option (ℕ × Symbol × ℕ)) Refusal

pub data Next (line : List ℕ) (a : ℕ) : Found → Type 0 where
  blank : Spaces line a (length line) → Next line a (Ok None)
  token : (s : ℕ) (t : Symbol) (e : ℕ) → Spaces line a s → TokenAt line s t e → Next line a (Ok (Some (s, t, e)))
  fault : (s : ℕ) (q : Refusal) → Spaces line a s → FaultAt line s q → Next line a (Err q)

pub data Front (line : List ℕ) : ℕ → List Symbol → ℕ → Type 0 where
  none : {a : ℕ} → Front line a [] a
  more : {a m e : ℕ} {ts : List Symbol} (s : ℕ) (t : Symbol) → Next line a (Ok (Some (s, t, m))) → Front line m ts e → Front line a (t ∷ ts) e

abbrev pub Whole : List ℕ → List Symbol → Type 0
Whole line ts = (e : ℕ) × Front line 0 ts e × Next line e (Ok None)

abbrev pub symbol_of : Token → Symbol
symbol_of (Variable w) = variable w.now
symbol_of (Name w) = name w.now
symbol_of (Block w) = block w.now
symbol_of Zero = nought
symbol_of Xor = xor
symbol_of Equals = equals
symbol_of Open = opening
symbol_of Close = closing

abbrev pub erased : Result (Option Lexeme) Refusal → Found
erased (Ok None) = Ok None
erased (Ok (Some l)) = Ok (Some (l.place, symbol_of l.token, l.end))
erased (Err q) = Err q
