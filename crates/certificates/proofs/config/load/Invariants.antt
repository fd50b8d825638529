-- `certificates::config::load` meets its contract. The loop's invariant: the slice has its length, and its first i places hold what they shall.
-- Assumes nothing.
use lib.ListN.{length}
use Rattle.certificates.proofs.StartLaws.{Loaded}
use Rattle.certificates.proofs.config.load.Given as goal

abbrev pub invariant-loop-i : goal.invariant-loop-i
invariant-loop-i l = Loaded (length l.initial.stakes) l.body l.i l.stakes
