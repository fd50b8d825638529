-- `certificates::config::keys_ascend` meets its contract. The loop's invariant: the keys that are left ascend where all do. Assumes nothing.
use Rattle.certificates.proofs.StartLaws.{Ascended}
use Rattle.certificates.proofs.config.keys_ascend.Given as goal

abbrev pub invariant-loop-i : goal.invariant-loop-i
invariant-loop-i l = Ascended l.body l.n l.i
