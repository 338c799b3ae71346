-- How kinds of constant are written.
--   Script C              which sorts of literal are taken, what each stands for, and how constants C are spelled:
--     takes_names           names are taken
--     takes_blocks          blocks are taken
--     of_name i             what name i stands for
--     of_block ds           what the block of the digits ds stands for
--     spell c               how c is written
--     longest               the most bytes that a constant is written with
--   taken s l             what the literal l stands for, where its sort is taken
--   block_value k s b     what the block b stands for as it is written, and zero where there is none
--   spelled_value k s p   what the literals of the spelling p join to
--   Allowed s p           every literal of p is of a sort that is taken
--   widest p              the most bytes of p with a separator of 3 after each literal, words having at most 8 bytes
--   longest_spelling      the most bytes that a constant of any written kind is written with
--   named i               the name i alone, or no name where there is none of that number
--   block_unless_zero b   b, unless it is the same as zero
--   names_script          names: each name is a literal
--   blocks_script         blocks: a block is one literal, and zero is none
--   pair_script           names with a block: the names first, then the block
use Rattle.std.specs.Prelude.{◌≡◌, ℕ, ◌+◌, ◌*◌, ◌<◌, Bool, true, false, cond, List, is_some, Some, None, Option, nat_lt}
use Rattle.kinds.specs.declared.names.Names.{Names}
use Rattle.kinds.specs.declared.blocks.Block.{Block}
use Rattle.kinds.specs.declared.pair.Pair.{Pair}
use Rattle.kinds.specs.Kinds.{Operations}
use Rattle.kinds.specs.Names.{most_names, has_name, one_name, names}
use Rattle.kinds.specs.Blocks.{blocks}
use Rattle.terms.specs.Sums.{gather, count}
use Rattle.written.specs.declared.Literal.{Literal}
use Rattle.written.specs.declared.Literal.TheVariants as literal
use Rattle.written.specs.declared.Spelling.{Spelling}
use Rattle.written.specs.Hex.{of_digits, digits_of}

pub record Script (C : Type 0) : Type 0 where
  pub takes_names : Bool
  pub takes_blocks : Bool
  pub of_name : ℕ → C
  pub of_block : List ℕ → C
  pub spell : C → Spelling
  pub longest : ℕ

abbrev pub taken : {C : Type 0} → Script C → Literal → Option C
taken s (literal.Name i) = cond s.takes_names (Some (s.of_name i)) None
taken s (literal.Block ds) = cond s.takes_blocks (Some (s.of_block ds.now)) None

abbrev pub block_value : {C : Type 0} → Operations C → Script C → Option Block → C
block_value k s None = k.zero
block_value k s (Some b) = s.of_block (digits_of b)

abbrev pub spelled_value : {C : Type 0} → Operations C → Script C → Spelling → C
spelled_value k s p =
    k.join (gather k.zero k.join s.of_name most_names (has_name p.names)) (block_value k s p.block)

pub record Allowed {C : Type 0} (s : Script C) (p : Spelling) : Type 0 where
  pub names_taken : (i : ℕ) → i < most_names → has_name p.names i ≡ true → s.takes_names ≡ true
  pub block_taken : is_some p.block ≡ true → s.takes_blocks ≡ true

abbrev pub widest : Spelling → ℕ
widest p = 11 * count most_names (has_name p.names) + cond (is_some p.block) 36 0

abbrev pub longest_spelling : ℕ
longest_spelling = 737

abbrev pub named : ℕ → Names
named i = cond (nat_lt i most_names) (one_name i) names.zero

abbrev pub names_script : Script Names
names_script = record {
  takes_names = true;
  takes_blocks = false;
  of_name = named;
  of_block = λ ds. names.zero;
  spell = λ s. record { names = s; block = None };
  longest = 701;
}

abbrev pub block_unless_zero : Block → Option Block
block_unless_zero b = cond (blocks.same b blocks.zero) None (Some b)

abbrev pub blocks_script : Script Block
blocks_script = record {
  takes_names = false;
  takes_blocks = true;
  of_name = λ i. blocks.zero;
  of_block = of_digits;
  spell = λ b. record { names = names.zero; block = block_unless_zero b };
  longest = 33;
}

abbrev pub pair_script : Script (Pair Names Block)
pair_script = record {
  takes_names = true;
  takes_blocks = true;
  of_name = λ i. record { first = named i; second = blocks.zero };
  of_block = λ ds. record { first = names.zero; second = of_digits ds };
  spell = λ c. record { names = c.first; block = block_unless_zero c.second };
  longest = 737;
}
