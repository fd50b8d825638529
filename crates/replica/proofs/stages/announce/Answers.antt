-- `replica::stages::announce` meets its contract: TIMER RESET, then what `generate_proposal` writes.
-- Assumes nothing.
use Rattle.replica.proofs.StageCode.{announce-wrote}
use borrow.Author.Rules.{rules}
use Rattle.replica.proofs.stages.announce.Goals as goal

pub returns : goal.returns
returns c = search (rules, announce-wrote)
