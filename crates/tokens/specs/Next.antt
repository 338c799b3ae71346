-- What the code works with: what comes next in a line, computed. In the subject's words it is said by Next in Tokens.
--   run_end p line a   where the run from a on of bytes that pass p ends
--   token_at line s b  what begins with the byte b at s
--   next line a      what comes next from a on
--   Ahead line a r   a token that comes next stands from a on, within the line
use Rattle.std.specs.Prelude.{ℕ, ◌+◌, ◌<◌, ◌≤◌, Bool, cond, List, length, drop, Some, None, Ok, Err, Option, Result, IfOk, IfSome, ◌==◌, nat_lt, slice_index}
use Rattle.std.specs.List.{prefix_len}
use Rattle.refusals.specs.declared.Refusal.{Refusal}
use Rattle.refusals.specs.declared.Refusal.TheVariants.{NoToken, WrongLength}
use Rattle.grammar.specs.Grammar.{Symbol, variable, name, block, nought, xor, equals, opening, closing}
use Rattle.tokens.specs.declared.Lexeme.{Lexeme}
use Rattle.words.specs.Limits.{longest_word}
use Rattle.tokens.specs.Limits.{block_digits}
use Rattle.tokens.specs.Classes.{capital, small, hex, in_variable, in_name, space}
use Rattle.tokens.specs.Tokens.{Found, span}

abbrev pub run_end : (ℕ → Bool) → List ℕ → ℕ → ℕ
run_end p line a = a + prefix_len p (drop a line)

abbrev pub sign_at : ℕ → Symbol → Found
sign_at s t = Ok (Some (s, t, s + 1))

abbrev pub word_at : List ℕ → ℕ → ℕ → (List ℕ → Symbol) → Found
word_at line s e t = cond (nat_lt (s + longest_word) e) (Err (WrongLength s)) (Ok (Some (s, t (span line s e), e)))

abbrev pub block_at : List ℕ → ℕ → ℕ → Found
block_at line s e = cond (e == s + 1 + block_digits) (Ok (Some (s, block (span line (s + 1) e), e))) (Err (WrongLength s))

abbrev pub token_at : List ℕ → ℕ → ℕ → Found
token_at line s b = cond (b == 94) (sign_at s xor) (cond (b == 61) (sign_at s equals) (cond (b == 40) (sign_at s opening) (cond (b == 41) (sign_at s closing) (cond (b == 48) (sign_at s nought) (cond (capital b) (word_at line s (run_end in_variable line (s + 1)) variable) (cond (small b) (word_at line s (run_end in_name line (s + 1)) name) (cond (b == 35) (block_at line s (run_end hex line (s + 1))) (Err (NoToken s)))))))))

abbrev pub next_from : List ℕ → ℕ → Found
next_from line s = cond (s == length line) (Ok None) (token_at line s (slice_index line s))

abbrev pub next : List ℕ → ℕ → Found
next line a = next_from line (run_end space line a)

abbrev pub Ahead : List ℕ → ℕ → Result (Option Lexeme) Refusal → Type 0
Ahead line a r = IfOk r (λ o. IfSome o (λ l. (a ≤ l.place) × (l.place < l.end) × (l.end ≤ length line)))
