-- `aggregator::tallies::weights_of` meets its contract. The loop has what the first i tallies have (`joined`).
-- Assumes nothing.
use Rattle.std.proofs.Common.{rules}
use Rattle.aggregator.proofs.TableLaws.{joined-none, joined-more}
use Rattle.aggregator.proofs.tallies.weights_of.Goals as goal

pub loop-i-init : goal.loop-i-init
loop-i-init c = search (rules, joined-none)

pub loop-i-preserved : goal.loop-i-preserved
loop-i-preserved c = search (rules, joined-more)
