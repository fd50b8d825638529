-- `aggregator::tallies::add_vote` meets its contract, which is that of `add` at its key.
-- Assumes nothing.
use Rattle.std.proofs.Common.{rules}
use Rattle.aggregator.specs.Tallies.{vote_added, votes_after}
use Rattle.aggregator.proofs.tallies.add_vote.Goals as goal

pub returns : goal.returns
unfolding vote_added votes_after
returns c = search rules
