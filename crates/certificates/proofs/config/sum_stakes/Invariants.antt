-- `certificates::config::sum_stakes` meets its contract. The loop's invariant: the sum is that of the first stakes where none of them is large,
-- and at most as many times the least large one. Assumes nothing.
use Prim.Native.Nat.{◌*◌, ◌≤◌}
use Rattle.certificates.proofs.ConfigLaws.{large, SmallSum}
use Rattle.certificates.proofs.config.sum_stakes.Given as goal

abbrev pub invariant-loop-stake : goal.invariant-loop-stake
invariant-loop-stake l = (l.sum ≤ large * l.stake-index) × SmallSum l.members l.stake-index l.all l.sum
