use Rattle.std.proofs.Common.{◌≡◌, length}
use Rattle.replay.specs.Promise.{asks, answers}
use Rattle.replay.proofs.Runs.{Replaying}
use Rattle.replay.proofs.replay.Given as goal

abbrev pub invariant-loop-request : goal.invariant-loop-request
invariant-loop-request g l =
    (asks l.requests ≡ asks l.initial.requests)
    × Replaying g.K.Kind.ops l.n (length l.initial.work) (asks l.initial.requests) l.initial.session l.initial.work l.request-index l.session (answers l.requests) l.work
