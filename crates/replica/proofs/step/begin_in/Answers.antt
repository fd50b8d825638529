-- `replica::step::begin_in` meets its contract: the part is the record, and `begin` meets its own on it.
-- Assumes nothing.
use Rattle.replica.proofs.OrderLaws.{begin-part}
use borrow.Author.Rules.{rules}
use Rattle.replica.proofs.step.begin_in.Goals as goal

pub returns : goal.returns
returns c = search (rules, begin-part)
