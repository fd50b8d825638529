-- `replica::stages::ready` meets its contract: a law for each way out.
-- Assumes nothing.
use Rattle.replica.proofs.StageCode.{ready-no-room, ready-limited, ready-handled, quorum-ready, handle-needs}
use Rattle.replica.proofs.StartedLaws.{started-ready, members-part}
use borrow.Author.Rules.{rules}
use Rattle.replica.proofs.stages.ready.Goals as goal

pub returns-in-Err : goal.returns-in-Err
returns-in-Err c =
    search (rules, ready-limited)

pub slice_bounds-members-end : goal.slice_bounds-members-end
slice_bounds-members-end c =
    let y = (started-ready _ _ _ _ _ c.requires).count in
    search (rules, y)

pub invariant_of-committee : goal.invariant_of-committee
invariant_of-committee c =
    record { quorum = quorum-ready _ _ _ _ c.requires c.quorum_threshold-need.ensures (members-part c.args.seat _) }

pub handle-h-requires : goal.handle-h-requires
handle-h-requires c =
    handle-needs _ _ c.args.core _ _ _ c.args.out.now _ c.is_roomy.ensures _ c.limit_of.ensures c.requires c.quorum_threshold-need.ensures c.if-is_roomy.true c.in-Ok.is (members-part c.args.seat _)

pub returns-in-Ok : goal.returns-in-Ok
returns-in-Ok c =
    ready-handled _ _ _ _ _ _ _ _ c.is_roomy.ensures _ c.limit_of.ensures c.requires c.quorum_threshold-need.ensures c.if-is_roomy.true c.in-Ok.is (members-part c.args.seat _) c.handle-h.ensures c.of_handed.ensures

pub returns : goal.returns
returns c =
    search (rules, ready-no-room)
