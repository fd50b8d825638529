-- `handlers::timeouts::take_tc` meets its contract: the round advances, and MAKE with the TC may follow.
-- Assumes nothing.
use borrow.Author.Rules.{rules}
use Rattle.handlers.proofs.TCLaws.{tc-taken}
use Rattle.handlers.proofs.timeouts.take_tc.Goals as goal

pub returns : goal.returns
returns c = search (rules, tc-taken)
