-- `aggregator::tallies::is_any_heavy` meets its contract. The loop: none of the first i tallies is heavy.
-- Assumes nothing.
use Rattle.std.proofs.Common.{ℕ, ◌≡◌, ◌<◌, false}
use Rattle.aggregator.specs.Rows.{row}
use Rattle.aggregator.specs.Tally.{is_heavy}
use Rattle.aggregator.proofs.tallies.is_any_heavy.Given as goal

abbrev pub invariant-loop-i : goal.invariant-loop-i
invariant-loop-i g l = (j : ℕ) → j < l.i → is_heavy l.total.0 (row g.K.Key.WIDTH l.table j) ≡ false
