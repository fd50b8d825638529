-- `handlers::timeouts::check_received_tc` meets its contract: the checks one by one. Assumes nothing.
use borrow.Author.Rules.{rules}
use Rattle.handlers.proofs.TCLaws.{check-tc, check-tc-stale, check-tc-passed}
use Rattle.handlers.proofs.timeouts.check_received_tc.Goals as goal

pub returns-in-Ok : goal.returns-in-Ok
returns-in-Ok c = search (rules, check-tc-stale)

pub returns-in-Ok-2 : goal.returns-in-Ok-2
returns-in-Ok-2 c = search (rules, check-tc-passed)

pub returns-in-Err : goal.returns-in-Err
returns-in-Err c = search (rules, check-tc)
