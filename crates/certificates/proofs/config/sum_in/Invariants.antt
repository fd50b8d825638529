-- `certificates::config::sum_in` meets its contract. The loop's invariant: the sum is that of the first i stakes, and at most i times the largest.
-- Assumes nothing.
use Prim.Native.Nat.{◌*◌, ◌≤◌}
use Rattle.certificates.specs.Start.{stakes_in}
use Rattle.certificates.proofs.ConfigLaws.{stake_max, Summed}
use Rattle.certificates.proofs.config.sum_in.Given as goal

abbrev pub invariant-loop-i : goal.invariant-loop-i
invariant-loop-i l = (l.sum ≤ stake_max * l.i) × Summed (stakes_in l.body) l.i l.sum
