-- `aggregator::tallies::weights_of` meets its contract. The loop has what the first i tallies have (`joined`).
-- Assumes nothing.
use Rattle.std.proofs.Common.{◌≡◌}
use Rattle.aggregator.specs.Tallies.{joined}
use Rattle.aggregator.proofs.tallies.weights_of.Given as goal

abbrev pub invariant-loop-i : goal.invariant-loop-i
invariant-loop-i l = l.all ≡ joined l.w l.i l.v
