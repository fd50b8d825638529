-- `aggregator::tallies::append_at` meets its contract: the part that is lent is the row, and once it is back the table has that row.
-- Assumes nothing.
use Rattle.std.proofs.Common.{rules}
use Rattle.aggregator.proofs.TableLaws.{append-part}
use Rattle.aggregator.proofs.tallies.append_at.Goals as goal

pub returns : goal.returns
returns g c = search (rules, append-part)
