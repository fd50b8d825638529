-- `handlers::timeouts::handle_tc` meets its contract: its checks refuse, or it is taken. Assumes nothing.
use borrow.Author.Rules.{rules}
use Rattle.handlers.proofs.TCLaws.{tc-refused, tc-passed}
use Rattle.handlers.proofs.timeouts.handle_tc.Goals as goal

pub returns-in-Ok : goal.returns-in-Ok
returns-in-Ok c = search (rules, tc-passed)

pub returns-in-Err : goal.returns-in-Err
returns-in-Err c = search (rules, tc-refused)
