-- `replica::step::step` meets its contract: it is `step_in` of the order that names the whole input.
use Rattle.replica.proofs.OrderLaws.{whole-order}
use Rattle.replica.proofs.step.step.Goals as goal

pub returns : goal.returns
returns c = (
  whole-order c.args.seat c.args.stakes.now c.args.core c.args.votes.now c.args.timeouts.now c.args.table.now c.args.out.now c.args.input.now c.order_of-order.ensures c.step_in.ensures.0,
  c.step_in.ensures.1,
)
