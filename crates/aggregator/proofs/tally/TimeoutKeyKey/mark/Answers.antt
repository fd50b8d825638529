-- `mark` of a timeout's key meets its contract: the high round is stored at the author's place.
-- Assumes nothing.
use Rattle.std.proofs.Common.{rules}
use Rattle.aggregator.specs.Tally.{with_high}
use Rattle.aggregator.proofs.tally.TimeoutKeyKey.mark.Goals as goal

pub returns : goal.returns
unfolding with_high
returns c = search rules
