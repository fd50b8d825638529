-- `replica::step::finish_in` meets its contract: the part is the record, and `finish` meets its own on it.
-- Assumes nothing.
use Rattle.replica.proofs.OrderLaws.{finish-part, finish-part-needs}
use borrow.Author.Rules.{rules}
use Rattle.replica.proofs.step.finish_in.Goals as goal

pub finish-requires : goal.finish-requires
finish-requires c = search (rules, finish-part-needs)

pub returns : goal.returns
returns c = search (rules, finish-part)
