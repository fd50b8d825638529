-- `handlers::proposals::tc_check` meets its contract: a law for each way out. Assumes nothing.
use borrow.Author.Rules.{rules}
use Rattle.handlers.proofs.ProposalLaws.{tc-none, tc-passed, tc-refused}
use Rattle.handlers.proofs.proposals.tc_check.Goals as goal

pub returns-in_default : goal.returns-in_default
returns-in_default c = search (rules, tc-none)

pub returns-in-Ok : goal.returns-in-Ok
returns-in-Ok c = search (rules, tc-passed)

pub returns-in-Err : goal.returns-in-Err
returns-in-Err c = search (rules, tc-refused)
