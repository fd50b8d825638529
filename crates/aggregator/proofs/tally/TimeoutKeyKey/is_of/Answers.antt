-- `is_of` of a timeout's key meets its contract: a law for each way out.
-- Assumes nothing.
use Rattle.std.proofs.Common.{rules}
use Rattle.aggregator.specs.Tally.{of_round}
use Rattle.aggregator.proofs.TallyLaws.{of-free, of-used}
use Rattle.aggregator.proofs.tally.TimeoutKeyKey.is_of.Goals as goal

pub returns-then-t-ne0 : goal.returns-then-t-ne0
unfolding of_round
returns-then-t-ne0 c = search (rules, of-used)

pub returns-else-t-ne0 : goal.returns-else-t-ne0
unfolding of_round
returns-else-t-ne0 c = search (rules, of-free)
