-- `open` of a timeout's key meets its contract: a law for each way out.
-- Assumes nothing.
use borrow.Author.Rules.{rules}
use Rattle.aggregator.proofs.TallyLaws.{timeout-opened}
use Rattle.aggregator.proofs.tally.TimeoutKeyKey.open.Goals as goal

pub returns : goal.returns
returns c = search (rules, timeout-opened)
