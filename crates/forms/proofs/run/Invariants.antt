-- `forms::run` meets its contract: the invariant is `Going`, the measure what is left of the trace, of which each record takes two bytes at least.
-- Assumes nothing.
use Prim.Native.Nat.{◌-◌}
use lib.ListN.{length}
use Rattle.forms.proofs.Runs.{Going}
use Rattle.forms.proofs.run.Given as goal

abbrev pub invariant-loop-out : goal.invariant-loop-out
invariant-loop-out l = Going l.trace l.initial.out l.out l.t l.used l.at

abbrev pub decreases-loop-out : goal.decreases-loop-out
decreases-loop-out l = length l.trace - l.used
