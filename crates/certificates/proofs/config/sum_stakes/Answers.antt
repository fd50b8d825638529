-- `certificates::config::sum_stakes` meets its contract: a law for none, for one more stake, and for all of them. Assumes nothing.
use native.Mathlib.Omega.{arith}
use mathlib.Core.Path.{refl}
use Rattle.certificates.proofs.ConfigLaws.{small-none, small-more}
use Rattle.certificates.proofs.config.sum_stakes.Goals as goal

pub loop-stake-init : goal.loop-stake-init
loop-stake-init c = (omega arith, small-none _)

pub loop-stake-preserved : goal.loop-stake-preserved
loop-stake-preserved c = (omega arith, small-more c.loop-stake.invariant.1 (omega arith) _ refl)
