-- `certificates::signers::weight` meets its contract. The loop's invariant: what has been summed and the stake of what is left of the word make
-- the stake of the whole word. Each turn takes the lowest place off what is left, which is the measure. Assumes nothing.
use Prim.Native.Nat.{◌+◌, ◌^◌, ◌<◌}
use mathlib.Core.Path.{◌≡◌}
use lib.ListN.{take}
use Rattle.certificates.specs.Signers.{word_bits, sum_at}
use Rattle.certificates.proofs.signers.weight.Given as goal

abbrev pub invariant-loop-left : goal.invariant-loop-left
invariant-loop-left l = (l.left < 2 ^ word_bits) × (l.sum + sum_at (take word_bits l.members) l.left ≡ sum_at (take word_bits l.members) l.initial.left)

abbrev pub decreases-loop-left : goal.decreases-loop-left
decreases-loop-left l = l.left
