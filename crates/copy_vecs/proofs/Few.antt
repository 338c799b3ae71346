-- How many items there are.
use Rattle.std.proofs.Common.{◌≡◌, ◌≤◌, ℕ, length, arith}
use Rattle.std.proofs.lemmas.List.{length-take-le}
use Rattle.copy_vecs.specs.declared.CopyVec.{CopyVec}
use Rattle.copy_vecs.specs.Items.{items}

module _ {T : Type 0} {N : ℕ} (v : CopyVec T N) where
  pub length_items : length (items v) ≡ v.len
  length_items = length-take-le v.len v.places (omega (arith, v.within, v.whole))

  pub items_few : length (items v) ≤ N
  items_few = omega (arith, length_items, v.within)
