-- `aggregator::tallies::cleanup` meets its contract. The loop: the first i rows are replaced, the others are as they were (`Mapped`).
-- Assumes nothing.
use Rattle.aggregator.specs.Tally.{kept}
use Rattle.aggregator.proofs.Rows.{Mapped}
use Rattle.aggregator.proofs.tallies.cleanup.Given as goal

abbrev pub invariant-loop-i : goal.invariant-loop-i
invariant-loop-i l = Mapped (kept l.fn.round.0) l.w l.initial.v l.i l.v
