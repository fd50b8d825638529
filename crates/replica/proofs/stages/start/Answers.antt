-- `replica::stages::start` meets its contract: a law for each way out.
-- Assumes nothing.
use Rattle.replica.proofs.StageCode.{boot-needs, start-refused, start-boots}
use borrow.Author.Rules.{rules}
use Rattle.replica.proofs.stages.start.Goals as goal

pub boot-requires : goal.boot-requires
boot-requires c = search (rules, boot-needs)

pub returns-in-Ok : goal.returns-in-Ok
returns-in-Ok c = search (rules, start-boots)

pub returns-in-Err : goal.returns-in-Err
returns-in-Err c = search (rules, start-refused)
