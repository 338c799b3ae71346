use Rattle.std.proofs.Common.{◌≡◌, length}
use Rattle.compare.proofs.compare_shared.Given as goal

abbrev pub invariant-loop-i : goal.invariant-loop-i
invariant-loop-i g l = length l.shared ≡ 4096
