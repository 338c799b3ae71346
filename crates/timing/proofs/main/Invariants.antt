use Rattle.std.proofs.Common.{◌≡◌, length}
use Rattle.timing.proofs.main.Given as goal

abbrev pub invariant-loop-i : goal.invariant-loop-i
invariant-loop-i l = length l.shared ≡ 4096

abbrev pub invariant-loop-run : goal.invariant-loop-run
invariant-loop-run l = length l.work ≡ 4096
