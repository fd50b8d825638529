-- `replica::stages::seat_of` meets its contract.
-- Assumes nothing.
use Rattle.replica.proofs.StageCode.{seat-new}
use borrow.Author.Rules.{rules}
use Rattle.replica.proofs.stages.seat_of.Goals as goal

pub returns : goal.returns
returns c = search (rules, seat-new)
