-- `aggregator::tallies::add_timeout` meets its contract, which is that of `add` at its key.
-- Assumes nothing.
use Rattle.std.proofs.Common.{rules}
use Rattle.aggregator.specs.Tallies.{timeout_added, timeouts_after}
use Rattle.aggregator.proofs.tallies.add_timeout.Goals as goal

pub returns : goal.returns
unfolding timeout_added timeouts_after
returns c = search rules
