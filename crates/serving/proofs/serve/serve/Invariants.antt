-- The lent lists keep their lengths, and the measure is the number of turns that are left.
use Rattle.std.proofs.Common.{◌≡◌, length}
use Rattle.serving.proofs.serve.serve.Given as goal

abbrev pub invariant-loop-u : goal.invariant-loop-u
invariant-loop-u g l = (length l.stakes ≡ length l.initial.stakes) × (length l.votes ≡ length l.initial.votes) × (length l.timeouts ≡ length l.initial.timeouts) × (length l.table ≡ length l.initial.table) × (length l.out ≡ length l.initial.out) × (length l.buf ≡ length l.initial.buf) × (length l.pack ≡ length l.initial.pack)

abbrev pub decreases-loop-u : goal.decreases-loop-u
decreases-loop-u g l = l.u.turns
