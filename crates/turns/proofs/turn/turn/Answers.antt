-- `turns::turn::turn` meets its contract: the record at the front, the replica's step and the ANSWER are the definition (`TurnLaws`).
use Rattle.turns.proofs.TurnLaws.{turn-left, turn-fits, turn-room}
use Rattle.turns.proofs.turn.turn.Goals as goal

pub returns : goal.returns
returns c = (
  turn-left c.args.run c.args.stakes.now c.args.votes.now c.args.timeouts.now c.args.table.now c.args.out.now c.args.trace.now
      c.ahead_of-ahead.ensures c.order_for-order.ensures c.step_in-s.ensures.0 c.step_in-s.auto.out c.close.ensures,
  turn-fits c.args.run c.args.stakes.now c.args.votes.now c.args.timeouts.now c.args.table.now c.args.out.now c.args.trace.now
      c.ahead_of-ahead.ensures c.order_for-order.ensures c.step_in-s.ensures.0 c.step_in-s.auto.out c.close.ensures,
  turn-room c.args.run c.args.stakes.now c.args.votes.now c.args.timeouts.now c.args.table.now c.args.out.now c.args.trace.now
      c.ahead_of-ahead.ensures c.order_for-order.ensures c.step_in-s.ensures.0 c.step_in-s.auto.out c.close.ensures c.step_in-s.ensures.1,
)
