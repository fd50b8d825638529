-- `certificates::config::key_below` meets its contract. The loops' invariant: what is left of the two keys decides as the whole. Assumes nothing.
use Prim.Native.Nat.{◌-◌, ◌≤◌}
use Rattle.certificates.specs.Start.{key_len}
use Rattle.certificates.proofs.StartLaws.{Compared}
use Rattle.certificates.proofs.config.key_below.Given as goal

abbrev pub invariant-loop-same : goal.invariant-loop-same
invariant-loop-same l = (l.same ≤ key_len) × Compared l.body l.a l.b l.same

abbrev pub decreases-loop-same : goal.decreases-loop-same
decreases-loop-same l = key_len - l.same

abbrev pub invariant-loop-i : goal.invariant-loop-i
invariant-loop-i l = Compared l.body l.a l.b l.i
