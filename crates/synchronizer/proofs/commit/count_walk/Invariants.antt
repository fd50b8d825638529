-- `synchronizer::commit::count_walk` meets its contract. The loop: what is counted, and the walk from the block, make the count (`Counts`). The round of the
-- block falls.
use Rattle.synchronizer.proofs.WalkLaws.{Counts}
use Rattle.synchronizer.proofs.commit.count_walk.Given as goal

abbrev pub invariant-loop-last : goal.invariant-loop-last
invariant-loop-last l = Counts l.table l.fn.b0 l.last.0 l.block l.blocks

abbrev pub decreases-loop-last : goal.decreases-loop-last
decreases-loop-last l = l.block.round.0
