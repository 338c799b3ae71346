-- The words of a dictionary as it keeps them.
--   texts ws   the bytes of each of the words ws, in their order
use Rattle.std.specs.Prelude.{ℕ, List, map}
use Rattle.copy_vecs.specs.Items.{items}
use Rattle.copy_vecs.specs.declared.CopyVec.{CopyVec}

abbrev pub texts : {M N : ℕ} → CopyVec (CopyVec ℕ M) N → List (List ℕ)
texts ws = map items (items ws)
