-- `aggregator::tallies::tally` meets its contract: found, opened, or no room: a law for each.
-- Assumes nothing.
use Rattle.std.proofs.Common.{rules}
use Rattle.aggregator.proofs.TableLaws.{tally-found, tally-opened, tally-none}
use Rattle.aggregator.proofs.tallies.tally.Goals as goal

pub returns-in-Some : goal.returns-in-Some
returns-in-Some g c = search (rules, tally-found)

pub returns : goal.returns
returns g c = tally-opened c.find.ensures c.in_default.not-Some c.find_free.ensures c.in_ok-i.was c.open_at.ensures

pub returns-in_err-i : goal.returns-in_err-i
returns-in_err-i g c = rw c.from_residual.ensures (tally-none c.find.ensures c.in_default.not-Some c.find_free.ensures c.in_err-i.was)
