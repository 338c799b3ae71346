-- Vectors that are copied, and how they change.
--   items v              the items of v, in their order
--   Pushed N v x r v'    x was to be put at the end of v, which has N places: r says whether it was, and v' is left
--   Popped v r v'        r is the last item of v, if it has one, and v' is left
use Rattle.std.specs.Prelude.{◌≡◌, ℕ, ◌<◌, List, [], ◌∷◌, ◌++◌, length, take, Ok, Err, Result, Some, None, Option}
use Rattle.copy_vecs.specs.declared.CopyVec.{CopyVec}
use Rattle.copy_vecs.specs.declared.Full.{Full}

abbrev pub items : {T : Type 0} {N : ℕ} → CopyVec T N → List T
items v = take v.len v.places

abbrev pub Pushed : {T : Type 0} (N : ℕ) → CopyVec T N → T → Result (Unit {0}) Full → CopyVec T N → Type 0
Pushed N v x (Ok done) v' = (length (items v) < N) × (items v' ≡ items v ++ x ∷ [])
Pushed N v x (Err full) v' = (length (items v) ≡ N) × (v' ≡ v)

abbrev pub Popped : {T : Type 0} {N : ℕ} → CopyVec T N → Option T → CopyVec T N → Type 0
Popped v None v' = (items v ≡ []) × (v' ≡ v)
Popped v (Some x) v' = items v ≡ items v' ++ x ∷ []
