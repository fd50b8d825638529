-- `replica::step::work_in` meets its contract: the part is the record, and `work_of` meets its own on it.
-- Assumes nothing.
use Rattle.replica.proofs.OrderLaws.{work-part}
use borrow.Author.Rules.{rules}
use Rattle.replica.proofs.step.work_in.Goals as goal

pub returns : goal.returns
returns c = search (rules, work-part)
