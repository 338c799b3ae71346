-- Each way through the function is one case of what may come next; the rest follows from that.
use Rattle.std.proofs.Common.{◌≡◌, ℕ, ◌<◌, false, List, length, get_or, sym, subst, rules, tests, arith}
use Rattle.std.proofs.lemmas.Result.{err_from_is_err_and}
use Rattle.grammar.specs.Grammar.{xor, equals, opening, closing, nought}
use Rattle.refusals.specs.declared.Refusal.TheVariants.{NoToken}
use Rattle.tokens.specs.declared.Token.{Token}
use Rattle.tokens.specs.Classes.{capital, small, hex, in_variable, in_name, space}
use Rattle.tokens.specs.Tokens.{Spaces, Stray, TokenAt, is_sign, is_variable, is_name, is_block, no_token, long_variable, long_name, wrong_block, blank, token, fault, symbol_of}
use Rattle.tokens.proofs.Nexts.{range_in, below_range, above_range, no_sign_of, next_is, next_ahead}
use Rattle.tokens.proofs.next_token.Goals as goal
use Rattle.tokens.proofs.next_token.Goals.{in-94, in-61, in-40, in-41, in-0, in-35+else-end-digits-ne-BLOCK_DIGITS, in-A-to-Z+in_ok-word-in-A-to-Z, in-a-to-z+in_ok-word-in-a-to-z}
use Rattle.tokens.proofs.next_token.Goals.{in_default-via-then-this-lt65, in_default-via-else-this-lt65+else-this-lt91+then-this-lt97, in_default-via-else-this-lt65+else-this-lt91+else-this-lt97+else-this-lt123}

stands : (line : List ℕ) (s : ℕ) (x y : Token × ℕ) → x ≡ y → TokenAt line s (symbol_of y.0) y.1 → TokenAt line s (symbol_of x.0) x.1
stands line s x y e t = subst (λ z. TokenAt line s (symbol_of z.0) z.1) (sym e) t

pub returns : goal.returns
returns c =
    let line = c.args.line.now in
    let s = c.run_end-start.result in
    let b = get_or line s 0 in
    let x = c.match-line-start.end in
    let spaces = c.run_end-start.ensures.run space (λ x b q k. search (rules, tests)) in
    let w : s < length line = omega arith in
    let t : TokenAt line s (symbol_of x.0) x.1 =
    elim c.match-line-start.branch [
      | in-94 v ↦ stands line s x _ v.end-is (is_sign xor w v.in-94.is)
      | in-61 v ↦ stands line s x _ v.end-is (is_sign equals w v.in-61.is)
      | in-40 v ↦ stands line s x _ v.end-is (is_sign opening w v.in-40.is)
      | in-41 v ↦ stands line s x _ v.end-is (is_sign closing w v.in-41.is)
      | in-0 v ↦ stands line s x _ v.end-is (is_sign nought w v.in-0.is)
      | in-35+else-end-digits-ne-BLOCK_DIGITS v ↦
          let digits = v.run_end-end.ensures.run hex (λ x b q k. search (rules, tests)) in
          stands line s x _ v.end-is (is_block _ v.in-35.is digits (omega arith))
      | in-A-to-Z+in_ok-word-in-A-to-Z v ↦
          let run = v.run_end-end-in-A-to-Z.ensures.run in_variable (λ x b q k. search (rules, tests)) in
          stands line s x _ v.end-is (rw v.in_ok-word-in-A-to-Z.ensures.bytes (is_variable _ (range_in 65 90 b (omega arith) (omega arith)) run v.in_ok-word-in-A-to-Z.ensures.short))
      | in-a-to-z+in_ok-word-in-a-to-z v ↦
          let run = v.run_end-end-in-a-to-z.ensures.run in_name (λ x b q k. search (rules, tests)) in
          stands line s x _ v.end-is (rw v.in_ok-word-in-a-to-z.ensures.bytes (is_name _ (range_in 97 122 b (omega arith) (omega arith)) run v.in_ok-word-in-a-to-z.ensures.short))
    ] in
    let n = token s _ _ spaces.stretch t in
    record { splits = n; value = sym (next_is n); bound = next_ahead n }

pub returns-then-start-line : goal.returns-then-start-line
returns-then-start-line c =
    let spaces = c.run_end-start.ensures.run space (λ x b q k. search (rules, tests)) in
    let n = blank (subst (Spaces c.args.line.now c.args.at) c.if-start-line.true spaces.stretch) in
    record { splits = n; value = sym (next_is n); bound = tt }

pub returns-then-end-digits-ne-BLOCK_DIGITS : goal.returns-then-end-digits-ne-BLOCK_DIGITS
returns-then-end-digits-ne-BLOCK_DIGITS c =
    let spaces = c.run_end-start.ensures.run space (λ x b q k. search (rules, tests)) in
    let digits = c.run_end-end.ensures.run hex (λ x b q k. search (rules, tests)) in
    let n = fault _ _ spaces.stretch (wrong_block _ c.in-35.is digits (λ q. omega arith)) in
    record { splits = n; value = sym (next_is n); bound = tt }

pub returns-in_err-word-in-A-to-Z : goal.returns-in_err-word-in-A-to-Z
returns-in_err-word-in-A-to-Z c =
    let p = err_from_is_err_and c.from_residual.result c.from_residual.ensures.1 in
    let b = get_or c.args.line.now c.run_end-start.result 0 in
    let spaces = c.run_end-start.ensures.run space (λ x b q k. search (rules, tests)) in
    let run = c.run_end-end-in-A-to-Z.ensures.run in_variable (λ x b q k. search (rules, tests)) in
    let n = fault _ _ spaces.stretch (long_variable _ (range_in 65 90 b (omega arith) (omega arith)) run c.in_err-word-in-A-to-Z.ensures.long) in
    rw (p.1, p.2, c.in_err-word-in-A-to-Z.ensures.refused) (record { splits = n; value = sym (next_is n); bound = tt })

pub returns-in_err-word-in-a-to-z : goal.returns-in_err-word-in-a-to-z
returns-in_err-word-in-a-to-z c =
    let p = err_from_is_err_and c.from_residual-in_err-word-in-a-to-z.result c.from_residual-in_err-word-in-a-to-z.ensures.1 in
    let b = get_or c.args.line.now c.run_end-start.result 0 in
    let spaces = c.run_end-start.ensures.run space (λ x b q k. search (rules, tests)) in
    let run = c.run_end-end-in-a-to-z.ensures.run in_name (λ x b q k. search (rules, tests)) in
    let n = fault _ _ spaces.stretch (long_name _ (range_in 97 122 b (omega arith) (omega arith)) run c.in_err-word-in-a-to-z.ensures.long) in
    rw (p.1, p.2, c.in_err-word-in-a-to-z.ensures.refused) (record { splits = n; value = sym (next_is n); bound = tt })

pub returns-in_default : goal.returns-in_default
returns-in_default c =
    let line = c.args.line.now in
    let s = c.run_end-start.result in
    let b = get_or line s 0 in
    let spaces = c.run_end-start.ensures.run space (λ x b q k. search (rules, tests)) in
    let w : s < length line = omega arith in
    let l : (capital b ≡ false) × (small b ≡ false) =
    elim c.in_default.branch [
      | in_default-via-then-this-lt65 v ↦ (below_range 65 90 b (omega arith), below_range 97 122 b (omega arith))
      | in_default-via-else-this-lt65+else-this-lt91+then-this-lt97 v ↦ (above_range 65 90 b (omega arith), below_range 97 122 b (omega arith))
      | in_default-via-else-this-lt65+else-this-lt91+else-this-lt97+else-this-lt123 v ↦ (above_range 65 90 b (omega arith), above_range 97 122 b (omega arith))
    ] in
    let x : Stray b =
    record {
      no_space = spaces.longest w;
      no_sign = no_sign_of b (λ q. omega arith) (λ q. omega arith) (λ q. omega arith) (λ q. omega arith) (λ q. omega arith);
      no_capital = l.0;
      no_small = l.1;
      no_hash = λ q. omega arith;
    } in
    let n = fault s (NoToken s) spaces.stretch (no_token w x) in
    record { splits = n; value = sym (next_is n); bound = tt }
