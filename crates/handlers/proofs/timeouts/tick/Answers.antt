-- `handlers::timeouts::tick` meets its contract: two records, and last voted raised.
-- Assumes nothing.
use borrow.Author.Rules.{rules}
use Rattle.handlers.proofs.TickLaws.{tick-did}
use Rattle.handlers.proofs.timeouts.tick.Goals as goal

pub returns : goal.returns
returns c = search (rules, tick-did)
