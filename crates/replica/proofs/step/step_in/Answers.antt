-- `replica::step::step_in` meets its contract: the parts of an event, one after the other, are the definition (`StepLaws`).
use Rattle.replica.specs.Order.{record_in}
use Rattle.replica.proofs.StepLaws.{settle-room, finish-needs, step_left, step_room}
use Rattle.replica.proofs.step.step_in.Goals as goal

pub settle-s-requires : goal.settle-s-requires
settle-s-requires c =
    let d = c.args.order in
    settle-room d.seat c.args.stakes.now d.core c.args.votes.now c.args.timeouts.now c.args.table.now c.args.out.now (record_in d c.args.input.now) c.len_of-slots.result
    c.len_of-slots.ensures c.begin_in-b.ensures c.work_in-w.ensures

pub finish_in-requires : goal.finish_in-requires
finish_in-requires c =
    let d = c.args.order in
    finish-needs d.seat c.args.stakes.now d.core c.args.votes.now c.args.timeouts.now c.args.table.now c.args.out.now (record_in d c.args.input.now) c.len_of-slots.result
    c.len_of-slots.ensures c.begin_in-b.ensures c.work_in-w.ensures c.settle-s.ensures

pub returns : goal.returns
returns c =
    let d = c.args.order in (
      step_left d.seat c.args.stakes.now d.core c.args.votes.now c.args.timeouts.now c.args.table.now c.args.out.now (record_in d c.args.input.now) c.len_of-slots.result
          c.len_of-slots.ensures c.begin_in-b.ensures c.work_in-w.ensures c.settle-s.ensures c.finish_in.ensures,
      step_room d.seat c.args.stakes.now d.core c.args.votes.now c.args.timeouts.now c.args.table.now c.args.out.now (record_in d c.args.input.now) c.len_of-slots.result
          c.len_of-slots.ensures c.begin_in-b.ensures c.work_in-w.ensures c.settle-s.ensures c.finish_in.ensures,
    )
