-- `handlers::timeouts::take_timeout` meets its contract: the QC is taken, which leaves the record sound, and the timeout is counted.
-- Assumes nothing.
use borrow.Author.Rules.{rules}
use Rattle.handlers.proofs.HandlerLaws.{sound-taken}
use Rattle.handlers.proofs.TimeoutLaws.{timeout-taken}
use Rattle.handlers.proofs.timeouts.take_timeout.Goals as goal

pub count_timeout-requires : goal.count_timeout-requires
count_timeout-requires c = search (rules, sound-taken)

pub returns : goal.returns
returns c = search (rules, timeout-taken)
