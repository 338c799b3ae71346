use Rattle.std.proofs.Common.{◌≡◌, length, take, sym, refl, subst, arith}
use lib.ListN.{length-map}
use Rattle.std.proofs.lemmas.List.{take_all}
use Rattle.session.specs.Accounts.{opened, new}
use Rattle.session.specs.Keeping.{Keeps}
use Rattle.replay.specs.Promise.{asks}
use Rattle.replay.proofs.Runs.{replaying_start, replaying_on, replayed}
use Rattle.replay.proofs.replay.Goals as goal

pub loop-request-init : goal.loop-request-init
loop-request-init g c =
    let o = c.in_ok-open.ensures in
    let kept = subst (λ m. Keeps g.K.Kind.ops c.open.new.self (opened (new m c.args.n))) (sym o.memory.lengths) o.opens.2 in
    (refl, replaying_start g.K.Kind.ops c.args.n _ _ c.open.new.self _ kept _)

pub loop-request-preserved : goal.loop-request-preserved
loop-request-preserved g c =
    let p = c.perform-request.ensures in
    replaying_on g.K.Kind.ops c.args.n _ _ _ _ c.loop-request.request-index c.loop-request.session c.perform-request.new.session c.loop-request.requests c.request-item.result
    c.perform-request.result c.loop-request.work c.perform-request.new.work c.loop-request.invariant (omega arith) c.request-item.is c.loop-request.auto.work p.told p.work.0 p.slots
    p.ledger p.memory

pub returns-clause-promise : goal.returns-clause-promise
returns-clause-promise g c =
    let inv = c.loop-request.invariant in
    let i = c.loop-request.request-index in
    let count : length (asks c.args.requests.now) ≡ length c.args.requests.now = length-map c.args.requests.now _ in
    let all : take i (asks c.args.requests.now) ≡ asks c.args.requests.now = take_all i (asks c.args.requests.now) (omega arith) in
    rw inv.0 (replayed g.K.Kind.ops c.args.n _ _ _ _ g.met.K.Kind.lawful i c.loop-request.session _ _ all inv.1)
