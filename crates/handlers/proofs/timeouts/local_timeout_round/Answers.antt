-- `handlers::timeouts::local_timeout_round` meets its contract: above the highest round 19; else the own timeout after the tick.
-- Assumes nothing.
use borrow.Author.Rules.{rules}
use Rattle.handlers.proofs.TickLaws.{tick-within, tick-high, tick-after}
use Rattle.handlers.proofs.timeouts.local_timeout_round.Goals as goal

pub returns-then-core-gt-ROUND_MAX : goal.returns-then-core-gt-ROUND_MAX
returns-then-core-gt-ROUND_MAX c = search (rules, tick-high)

pub own_timeout-requires : goal.own_timeout-requires
own_timeout-requires c =
    (c.requires.0, tick-within c.tick-a.ensures c.if-core-gt-ROUND_MAX.false, search rules)

pub returns : goal.returns
returns c = search (rules, tick-after)
