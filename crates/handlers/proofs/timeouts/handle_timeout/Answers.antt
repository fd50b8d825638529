-- `handlers::timeouts::handle_timeout` meets its contract: its checks refuse, or it is taken. Assumes nothing.
use borrow.Author.Rules.{rules}
use Rattle.handlers.proofs.TimeoutLaws.{timeout-known, timeout-refused, timeout-passed}
use Rattle.handlers.proofs.timeouts.handle_timeout.Goals as goal

pub take_timeout-requires : goal.take_timeout-requires
take_timeout-requires c = search (rules, timeout-known)

pub returns-in-Ok : goal.returns-in-Ok
returns-in-Ok c = search (rules, timeout-passed)

pub returns-in-Err : goal.returns-in-Err
returns-in-Err c = search (rules, timeout-refused)
