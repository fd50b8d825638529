-- `mark` of a vote's key meets its contract: nothing is stored.
-- Assumes nothing.
use Rattle.std.proofs.Common.{rules}
use Rattle.aggregator.specs.Tally.{no_high}
use Rattle.aggregator.proofs.tally.VoteKeyKey.mark.Goals as goal

pub returns : goal.returns
unfolding no_high
returns c = search rules
