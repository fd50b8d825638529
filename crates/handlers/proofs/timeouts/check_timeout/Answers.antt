-- `handlers::timeouts::check_timeout` meets its contract: the checks one by one. Assumes nothing.
use borrow.Author.Rules.{rules}
use Rattle.handlers.proofs.TimeoutLaws.{check-timeout, check-timeout-qc, check-timeout-passed}
use Rattle.handlers.proofs.timeouts.check_timeout.Goals as goal

pub returns-in_err-timeout_check : goal.returns-in_err-timeout_check
returns-in_err-timeout_check c = search (rules, check-timeout)

pub returns-in-Ok : goal.returns-in-Ok
returns-in-Ok c = search (rules, check-timeout-passed)

pub returns-in-Err : goal.returns-in-Err
returns-in-Err c = search (rules, check-timeout-qc)
