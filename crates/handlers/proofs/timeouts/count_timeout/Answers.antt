-- `handlers::timeouts::count_timeout` meets its contract: it is counted, short of the quorum or with it, or not counted. Assumes nothing.
use borrow.Author.Rules.{rules}
use mathlib.Core.Path.{ap, ◌∙◌}
use Rattle.std.specs.Prelude.{Ok}
use Rattle.aggregator.proofs.Laws.{timeout-below}
use Rattle.moves.proofs.TallyLaws.{timeout-tallied-short, timeout-tallied-refused, timeout-tallied-full}
use Rattle.handlers.proofs.HandlerLaws.{sound-counts-timeout}
use Rattle.handlers.proofs.timeouts.count_timeout.Goals as goal

pub add_timeout-requires : goal.add_timeout-requires
add_timeout-requires c = search (rules, sound-counts-timeout)

pub time_out-m-requires : goal.time_out-m-requires
time_out-m-requires c = (search rules, timeout-below _ _ _ _ _ _ c.add_timeout.ensures (c.in-Ok.is ∙ ap Ok c.in-Some.is), search rules, search rules, search rules)

pub returns-in-Some : goal.returns-in-Some
returns-in-Some c = rw (← c.stake-held.ensures) (timeout-tallied-full _ _ _ _ _ _ _ _ _ _ _ _ c.add_timeout.ensures (c.in-Ok.is ∙ ap Ok c.in-Some.is) c.time_out-m.ensures)

pub returns-in-None : goal.returns-in-None
returns-in-None c = rw (← c.stake-held.ensures) (timeout-tallied-short _ _ _ _ _ _ _ _ _ _ _ _ c.add_timeout.ensures (c.in-Ok.is ∙ ap Ok c.in-None.is))

pub returns-in-Err : goal.returns-in-Err
returns-in-Err c = rw (← c.stake-held.ensures) (timeout-tallied-refused _ _ _ _ _ _ _ _ _ _ _ _ c.add_timeout.ensures c.in-Err.is c.added_refusal.ensures)
