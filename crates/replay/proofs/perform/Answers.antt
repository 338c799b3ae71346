use Rattle.session.proofs.Keeping.{passed_on}
use Rattle.replay.proofs.perform.Goals as goal

pub returns-in_err-verdict-in-Query-clause-told : goal.returns-in_err-verdict-in-Query-clause-told
returns-in_err-verdict-in-Query-clause-told g c =
    rw (c.in-Query.is, passed_on c.from_residual-in_err-verdict-in-Query.result c.in_err-verdict-in-Query.field-0.0 c.from_residual-in_err-verdict-in-Query.ensures.1)
    c.in_err-verdict-in-Query.ensures.told

pub returns-in_err-show-in-Show-clause-told : goal.returns-in_err-show-in-Show-clause-told
returns-in_err-show-in-Show-clause-told g c =
    rw (c.in-Show.is, passed_on c.from_residual-in_err-show-in-Show.result c.in_err-show-in-Show.field-0.0 c.from_residual-in_err-show-in-Show.ensures.1)
    c.in_err-show-in-Show.ensures.told

pub returns-in_ok-verdict-in-Query-clause-told : goal.returns-in_ok-verdict-in-Query-clause-told
returns-in_ok-verdict-in-Query-clause-told g c = rw c.in-Query.is c.in_ok-verdict-in-Query.ensures.told

pub returns-in_ok-show-in-Show-clause-told : goal.returns-in_ok-show-in-Show-clause-told
returns-in_ok-show-in-Show-clause-told g c = rw c.in-Show.is c.in_ok-show-in-Show.ensures.told
