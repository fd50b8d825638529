-- `trace::events::largest_high` meets its contract. The loop: `high` is the largest of the first i entries.
-- Assumes nothing.
use mathlib.Core.Path.{◌≡◌}
use Rattle.trace.specs.Layout.{highs_in, largest}
use Rattle.trace.proofs.events.largest_high.Given as goal

abbrev pub invariant-loop-i : goal.invariant-loop-i
invariant-loop-i l = l.high ≡ largest (highs_in l.part l.i)
