-- `aggregator::tallies::cleanup` meets its contract. The loop: the first i rows are replaced, the others are as they were (`Mapped`).
-- Assumes nothing.
use Rattle.std.proofs.Common.{◌≡◌, arith}
use Rattle.aggregator.specs.Tallies.{dropped}
use Rattle.aggregator.proofs.Rows.{row_within, map-part}
use Rattle.aggregator.proofs.TallyLaws.{kept-length}
use Rattle.aggregator.proofs.tallies.cleanup.Goals as goal

pub loop-i-preserved : goal.loop-i-preserved
loop-i-preserved c =
    map-part (kept-length c.args.round.0) c.loop-i.invariant c.keep.new.t (row_within c.args.w c.loop-i.i c.args.n c.args.v.now c.loop-i-test.true c.requires.1) c.keep.ensures

pub returns : goal.returns
unfolding dropped
returns c =
    let e : c.loop-i.i ≡ c.args.n = omega arith in
    rw (← e) c.loop-i.invariant.is
