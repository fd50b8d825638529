-- `aggregator::tallies::are_light` meets its contract: a law for each way out.
-- Assumes nothing.
use Rattle.std.proofs.Common.{rules}
use Rattle.aggregator.proofs.TableLaws.{are-light-joined, are-light-none, are-light-some}
use Rattle.aggregator.proofs.tallies.are_light.Goals as goal

pub returns-then-of_votes-of_timeouts : goal.returns-then-of_votes-of_timeouts
returns-then-of_votes-of_timeouts c = search (rules, are-light-joined)

pub returns-then-not-is_any_heavy : goal.returns-then-not-is_any_heavy
returns-then-not-is_any_heavy c = search (rules, are-light-none)

pub returns-else-not-is_any_heavy : goal.returns-else-not-is_any_heavy
returns-else-not-is_any_heavy c = search (rules, are-light-some)
