-- `replica::stages::fill` meets its contract.
-- Assumes nothing.
use Rattle.replica.proofs.StageCode.{filled}
use borrow.Author.Rules.{rules}
use Rattle.replica.proofs.stages.fill.Goals as goal

pub returns : goal.returns
returns c = search (rules, filled)
