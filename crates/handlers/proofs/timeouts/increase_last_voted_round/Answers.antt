-- `handlers::timeouts::increase_last_voted_round` meets its contract: the test says whether last voted rises.
-- Assumes nothing.
use borrow.Author.Rules.{rules}
use Rattle.handlers.proofs.TickLaws.{voted-rises, voted-stays}
use Rattle.handlers.proofs.timeouts.increase_last_voted_round.Goals as goal

pub returns-then-core-target : goal.returns-then-core-target
returns-then-core-target c = search (rules, voted-rises)

pub returns-else-core-target : goal.returns-else-core-target
returns-else-core-target c = search (rules, voted-stays)
