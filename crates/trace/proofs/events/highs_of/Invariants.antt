-- `trace::events::highs_of` meets its contract. The loop: the slice is what the first i entries leave.
-- Assumes nothing.
use mathlib.Core.Path.{◌≡◌}
use Rattle.trace.specs.Layout.{highs_up_to}
use Rattle.trace.proofs.events.highs_of.Given as goal

abbrev pub invariant-loop-i : goal.invariant-loop-i
invariant-loop-i l = l.highs ≡ highs_up_to l.part l.i
