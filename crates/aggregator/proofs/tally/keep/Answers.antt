-- `aggregator::tally::keep` meets its contract: a law for each way out.
-- Assumes nothing.
use Rattle.std.proofs.Common.{rules}
use Rattle.aggregator.proofs.TallyLaws.{keep-dropped, keep-late, keep-free}
use Rattle.aggregator.proofs.tally.keep.Goals as goal

pub returns-then-t-round : goal.returns-then-t-round
returns-then-t-round c = search (rules, keep-dropped)

pub returns-else-t-ne0 : goal.returns-else-t-ne0
returns-else-t-ne0 c = search (rules, keep-free, keep-late)
