-- `handlers::timeouts::own_timeout` meets its contract: without stake it is refused; else it is counted. Assumes nothing.
use borrow.Author.Rules.{rules}
use Rattle.handlers.proofs.TickLaws.{own-refused, own-tallied}
use Rattle.handlers.proofs.timeouts.own_timeout.Goals as goal

pub returns-in-Ok : goal.returns-in-Ok
returns-in-Ok c = search (rules, own-tallied)

pub returns-in-Err : goal.returns-in-Err
returns-in-Err c = search (rules, own-refused)
