-- `outputs::put::put_entries` meets its contract. The loop's invariant: the entries of the places that are left, written from here on, make all of
-- them (`Left` of `Recs`). Each turn takes the lowest place off the rest, which is the measure.
-- Assumes nothing.
use Prim.Native.Nat.{◌^◌, ◌<◌}
use mathlib.Core.Path.{◌≡◌}
use lib.ListN.{length}
use Rattle.outputs.proofs.Recs.{Left}
use Rattle.outputs.proofs.put.put_entries.Given as goal

abbrev pub invariant-loop-left : goal.invariant-loop-left
invariant-loop-left l = (l.left < 2 ^ 64) × (length l.out ≡ length l.initial.out) × Left l.initial.out l.at l.names l.highs l.out l.left l.to

abbrev pub decreases-loop-left : goal.decreases-loop-left
decreases-loop-left l = l.left
