-- `synchronizer::commit::write_commits` meets its contract. The loop: what is left of the chain, written now, makes the whole (`Pending`).
use Rattle.synchronizer.proofs.ChainLaws.{Pending}
use Rattle.synchronizer.proofs.commit.write_commits.Given as goal

abbrev pub invariant-loop-left : goal.invariant-loop-left
invariant-loop-left l = Pending l.table l.c l.initial.out l.block l.left l.out
