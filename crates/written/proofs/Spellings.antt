-- Constants are spelled so that they read back as the same.
use Rattle.std.proofs.Common.{◌≡◌, ℕ, zero, suc, ◌+◌, ◌*◌, ◌<◌, ◌≤◌, Bool, true, false, cond, is_some, Some, None, Option, sym, refl, ap, ◌∙◌, subst, ap₂, inl, inr, arith}
use mathlib.Core.Bool.{false≢true}
use Rattle.std.proofs.lemmas.Bool.{cases_eq, cases_lt, cond-true, lt-ltb, both_ways, false_from_ne_true}
use Rattle.kinds.specs.declared.names.Names.{Names}
use Rattle.kinds.specs.declared.blocks.Block.{Block}
use Rattle.kinds.specs.declared.pair.Pair.{Pair}
use Rattle.kinds.specs.Kinds.{Operations, SameConstant}
use Rattle.kinds.specs.Names.{most_names, has_name, of_members, one_name, names, differs}
use Rattle.kinds.specs.Blocks.{block_bytes, byte, blocks}
use Rattle.kinds.specs.Pairs.{pairs}
use Rattle.kinds.proofs.Laws.{unit_right}
use Rattle.kinds.specs.Tests.{both_pass, passes_true}
use Rattle.kinds.specs.NameLaws.{names_lawful}
use Rattle.kinds.specs.BlockLaws.{blocks_lawful, block_same, same_bytes, byte_zero}
use Rattle.std.specs.Bool.{passes}
use Rattle.terms.proofs.SetFacts.{differs_false, has_empty, has_singleton, singleton_other, has_difference, sets_equal}
use Rattle.terms.specs.Sums.{gather}
use Rattle.terms.proofs.Sums.{gather_keeps, gather_map, count_most, count_none}
use Rattle.written.specs.declared.Spelling.{Spelling}
use Rattle.written.specs.Scripts.{Script, Allowed, block_value, spelled_value, widest, named, block_unless_zero, names_script, blocks_script, pair_script}
use Rattle.written.proofs.HexDigits.{digits_back}

-- all that a spelling p of the constant c owes
pub record Spelled {C : Type 0} (k : Operations C) (s : Script C) (c : C) (p : Spelling) : Type 0 where
  pub spelling : p ≡ s.spell c
  pub back : SameConstant k (spelled_value k s p) c
  pub allowed : Allowed s p
  pub short : widest p ≤ s.longest + 3

pub as_spelled : {C : Type 0} {k : Operations C} {s : Script C} {c : C} {p q : Spelling} → p ≡ q → Spelled k s c q → Spelled k s c p
as_spelled {k = k} {s = s} {c = c} e h = subst (Spelled k s c) (sym e) h

abbrev pub spelling_of : Names → Option Block → Spelling
spelling_of n b = record { names = n; block = b }

-- the facts that hold of names in one word, and of bytes

abbrev pub Numbered : Names → Type 0
Numbered s = (i : ℕ) → has_name s i ≡ true → i < most_names

abbrev pub Bytes : Block → Type 0
Bytes b = (i : ℕ) → byte b i < 256

-- a set of names is the join of its names

picked_that : (b : Bool) (n : ℕ) → has_name (cond b (one_name n) names.zero) n ≡ b
picked_that true n = has_singleton n
picked_that false n = has_empty n

picked_other : (b : Bool) (n v : ℕ) → (n ≡ v → ⊥) → has_name (cond b (one_name n) names.zero) v ≡ false
picked_other true n v d = singleton_other n v d
picked_other false n v d = has_empty v

abbrev gathered : Names → ℕ → Names
gathered s n = gather names.zero names.join named n (has_name s)

gathered_next : (s : Names) (n v : ℕ) → n < most_names
    → has_name (gathered s (suc n)) v ≡ differs (has_name (gathered s n) v) (has_name (cond (has_name s n) (one_name n) names.zero) v)
unfolding gather
gathered_next s n v h =
    let name : named n ≡ one_name n = cond-true _ _ _ (lt-ltb n most_names h) in
    has_difference (gathered s n).members (cond (has_name s n) (named n) names.zero).members v
    ∙ ap (λ m. differs (has_name (gathered s n) v) (has_name (cond (has_name s n) m names.zero) v)) name

gathered_none : (s : Names) (v : ℕ) → has_name (gathered s 0) v ≡ false
unfolding gather
gathered_none s v = has_empty v

gathered_above : (s : Names) (n v : ℕ) → n ≤ most_names → n ≤ v → has_name (gathered s n) v ≡ false
gathered_above s zero v h l = gathered_none s v
gathered_above s (suc n) v h l =
    gathered_next s n v (omega arith)
    ∙ ap₂ differs (gathered_above s n v (omega arith) (omega arith)) (picked_other (has_name s n) n v (λ e. omega arith))

gathered_below : (s : Names) (n v : ℕ) → n ≤ most_names → v < n → has_name (gathered s n) v ≡ has_name s v
gathered_below s zero v h l = absurd (omega arith)
gathered_below s (suc n) v h l =
    elim (cases_eq n v) [
      | inl e ↦
          gathered_next s n v (omega arith)
          ∙ ap₂ differs (gathered_above s n v (omega arith) (omega arith)) (ap (λ u. has_name (cond (has_name s n) (one_name n) names.zero) u) (sym e) ∙ picked_that (has_name s n) n ∙ ap (has_name s) e)
      | inr d ↦
          gathered_next s n v (omega arith)
          ∙ ap₂ differs (gathered_below s n v (omega arith) (omega (arith, d))) (picked_other (has_name s n) n v d)
          ∙ differs_false (has_name s v)
    ]

names_gathered : (s : Names) → Numbered s → gathered s most_names ≡ s
names_gathered s numbered =
    ap of_members (sets_equal (gathered s most_names).members s.members (λ v.
    elim (cases_lt v most_names) [
      | inl l ↦ gathered_below s most_names v (omega arith) l
      | inr l ↦ gathered_above s most_names v (omega arith) l ∙ sym (false_from_ne_true _ (λ h. omega (arith, numbered v h)))
    ]))

gathered_back : (s : Names) → Numbered s → SameConstant names (gathered s most_names) s
gathered_back s numbered = subst (SameConstant names (gathered s most_names)) (names_gathered s numbered) (names_lawful.same_self (gathered s most_names))

no_name : (i : ℕ) → has_name names.zero i ≡ false
no_name i = has_empty i

-- a block reads back

block_back : (b : Block) → Bytes b → SameConstant blocks (block_value blocks blocks_script (block_unless_zero b)) b
block_back b small = go (blocks.same b blocks.zero) refl
  where
    go : (t : Bool) → blocks.same b blocks.zero ≡ t → SameConstant blocks (block_value blocks blocks_script (cond t None (Some b))) b
    go true e = blocks_lawful.same_sym {a = b} {b = blocks.zero} (passes _ e)
    go false e = digits_back b (λ i l. small i)

pub zero_same : (b : Block) → ((i : ℕ) → i < block_bytes → byte b i ≡ 0) → blocks.same b blocks.zero ≡ true
zero_same b h = passes_true _ (block_same b blocks.zero (λ i l. h i l ∙ sym (byte_zero i l)))

pub same_zero : (b : Block) → (((i : ℕ) → i < block_bytes → byte b i ≡ 0) → ⊥) → blocks.same b blocks.zero ≡ false
same_zero b h = false_from_ne_true _ (λ t. h (λ i l. same_bytes b blocks.zero (passes _ t) i l ∙ byte_zero i l))

-- no name stands for a block
no_blocks : (n : ℕ) (p : ℕ → Bool) → SameConstant blocks (gather blocks.zero blocks.join (λ i. blocks.zero) n p) blocks.zero
no_blocks n p =
    gather_keeps blocks_lawful (λ b. SameConstant blocks b blocks.zero) (blocks_lawful.same_self blocks.zero)
    (λ a b s t. blocks_lawful.same_trans {a = blocks.join a b} {b = blocks.join blocks.zero blocks.zero} {c = blocks.zero} (blocks_lawful.join_same {a = a} {b = blocks.zero} {c = b} {d = blocks.zero} s t) (blocks_lawful.unit blocks.zero))
    (λ i. blocks.zero) n p (λ u l m. blocks_lawful.same_self blocks.zero)

-- beside what is zero, a block's value alone counts
value_alone : (rest value b : Block) → SameConstant blocks rest blocks.zero → SameConstant blocks value b → SameConstant blocks (blocks.join rest value) b
value_alone rest value b none back =
    blocks_lawful.same_trans {a = blocks.join rest value} {b = blocks.join blocks.zero value} {c = b}
    (blocks_lawful.join_same {a = rest} {b = blocks.zero} {c = value} {d = value} none (blocks_lawful.same_self value))
    (blocks_lawful.same_trans {a = blocks.join blocks.zero value} {b = value} {c = b} (blocks_lawful.unit value) back)

block_widest : (n : ℕ) (b : Bool) → n ≤ 704 → n + cond b 36 0 ≤ 740
block_widest n true h = omega arith
block_widest n false h = omega arith

-- each kind's spelling

pub names_spelled : (s : Names) → Numbered s → Spelled names names_script s (names_script.spell s)
names_spelled s numbered =
    record {
      spelling = refl;
      back = names_lawful.same_trans {a = names.join (gathered s most_names) names.zero} {b = gathered s most_names} {c = s} (unit_right names_lawful (gathered s most_names)) (gathered_back s numbered);
      allowed = record { names_taken = λ i l h. refl; block_taken = λ h. absurd (false≢true h) };
      short = omega (arith, count_most most_names (has_name s));
    }

pub blocks_spelled : (b : Block) → Bytes b → Spelled blocks blocks_script b (blocks_script.spell b)
blocks_spelled b small =
    record {
      spelling = refl;
      back = value_alone _ (block_value blocks blocks_script (block_unless_zero b)) b (no_blocks most_names (has_name names.zero)) (block_back b small);
      allowed = record { names_taken = λ i l h. absurd (both_ways _ (no_name i) h); block_taken = λ h. refl };
      short = one_block (is_some (block_unless_zero b)) (count_none most_names (has_name names.zero) (λ i l. no_name i));
    }
  where
    one_block : {n : ℕ} (t : Bool) → n ≡ 0 → 11 * n + cond t 36 0 ≤ 36
    one_block true e = omega arith
    one_block false e = omega arith

module _ (x : Pair Names Block) where
  -- what its names join to, and what its block stands for
  abbrev all : Pair Names Block
  all = gather (pairs names blocks).zero (pairs names blocks).join pair_script.of_name most_names (has_name x.first)

  abbrev block_part : Bool → Pair Names Block
  block_part t = block_value (pairs names blocks) pair_script (cond t None (Some x.second))

  no_names : (t : Bool) → (block_part t).first ≡ names.zero
  no_names true = refl
  no_names false = refl

  block_alone : (t : Bool) → (block_part t).second ≡ block_value blocks blocks_script (cond t None (Some x.second))
  block_alone true = refl
  block_alone false = refl

  first_back : Numbered x.first → SameConstant names (names.join all.first names.zero) x.first
  first_back numbered =
      let picked = gather_map names_lawful (λ (c : Pair Names Block). c.first) (names_lawful.same_self names.zero) (λ a b. names_lawful.same_self _) pair_script.of_name most_names (has_name x.first) in
      names_lawful.same_trans {a = names.join all.first names.zero} {b = all.first} {c = x.first} (unit_right names_lawful all.first)
      (names_lawful.same_trans {a = all.first} {b = gathered x.first most_names} {c = x.first} picked (gathered_back x.first numbered))

  second_back : Bytes x.second → SameConstant blocks (blocks.join all.second (block_value blocks blocks_script (block_unless_zero x.second))) x.second
  second_back small =
      let picked = gather_map blocks_lawful (λ (c : Pair Names Block). c.second) (blocks_lawful.same_self blocks.zero) (λ a b. blocks_lawful.same_self _) pair_script.of_name most_names (has_name x.first) in
      let none = blocks_lawful.same_trans {a = all.second} {b = gather blocks.zero blocks.join (λ (i : ℕ). blocks.zero) most_names (has_name x.first)} {c = blocks.zero} picked (no_blocks most_names (has_name x.first)) in
      value_alone all.second (block_value blocks blocks_script (block_unless_zero x.second)) x.second none (block_back x.second small)

  pub pair_spelled : Numbered x.first → Bytes x.second → Spelled (pairs names blocks) pair_script x (pair_script.spell x)
  pair_spelled numbered small =
      let t = blocks.same x.second blocks.zero in
      record {
        spelling = refl;
        back = both_pass _ _
            (subst (λ (n : Names). SameConstant names (names.join all.first n) x.first) (sym (no_names t)) (first_back numbered))
            (subst (λ (b : Block). SameConstant blocks (blocks.join all.second b) x.second) (sym (block_alone t)) (second_back small));
        allowed = record { names_taken = λ i l h. refl; block_taken = λ h. refl };
        short = block_widest _ (is_some (block_unless_zero x.second)) (omega (arith, count_most most_names (has_name x.first)));
      }
