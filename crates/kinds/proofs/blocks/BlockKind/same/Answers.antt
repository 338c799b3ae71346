use Rattle.std.proofs.Common.{◌≡◌, Bool, true, false, length, get_or, sym, ap, ◌∙◌, arith}
use Rattle.std.specs.Bool.{MatchBool}
use Rattle.std.specs.Cmp.Lexicographic.{told_text}
use Rattle.std.proofs.lemmas.Bool.{eqb-true, eq-eqb, false_from_ne_true}
use Rattle.std.proofs.lemmas.List.{ext_get_or}
use Rattle.kinds.specs.declared.blocks.Block.{Block}
use Rattle.kinds.specs.Blocks.{block_bytes, blocks}
use Rattle.kinds.specs.Rows.{each_in, each_out}
use Rattle.kinds.proofs.blocks.BlockKind.same.Goals as goal

-- whole blocks are the same where their lists of bytes are equal
told_same : (x y : Block) → length x.bytes ≡ block_bytes → length y.bytes ≡ block_bytes → (r : Bool)
    → MatchBool r (x.bytes ≡ y.bytes) (x.bytes ≡ y.bytes → ⊥) → r ≡ blocks.same x y
told_same x y m n true e = sym (each_in _ block_bytes (λ i l. eq-eqb _ _ (ap (λ bs. get_or bs i 0) e)))
told_same x y m n false d =
    sym (false_from_ne_true _ (λ t. d (ext_get_or 0 x.bytes y.bytes (m ∙ sym n) (λ i l. eqb-true _ _ (each_out _ block_bytes t i (omega arith))))))

pub returns : goal.returns
returns c =
    let x = c.args.self.now in
    let y = c.args.other.now in
    told_same x y (omega arith) (omega arith) c.eq.result (told_text x.bytes y.bytes c.eq.result c.eq.ensures)
