-- `aggregator::tally::append` meets its contract: a law for each way out.
-- Assumes nothing.
use Rattle.std.proofs.Common.{rules}
use Rattle.aggregator.proofs.TallyLaws.{append-used, append-more, append-full}
use Rattle.aggregator.proofs.tally.append.Goals as goal

pub returns-then-names-place-eq1 : goal.returns-then-names-place-eq1
returns-then-names-place-eq1 g c = search (rules, append-used)

pub returns-then-weight-need : goal.returns-then-weight-need
returns-then-weight-need g c = search (rules, append-more)

pub returns : goal.returns
returns g c = search (rules, append-full)
