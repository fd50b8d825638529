-- `aggregator::tallies::highs_at` meets its contract: the part is what lies in the row past its first numbers (`highs-part`).
-- Assumes nothing.
use borrow.Author.Rules.{rules}
use Rattle.aggregator.proofs.TableLaws.{highs-part}
use Rattle.aggregator.proofs.tallies.highs_at.Goals as goal

pub returns : goal.returns
returns c = search (rules, highs-part)
