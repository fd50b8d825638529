-- `moves::rounds::write_tc_at` meets its contract: what `highs_at` hands back are the high rounds of the row (`tc-at`).
-- Assumes nothing.
use borrow.Author.Rules.{rules}
use Rattle.moves.proofs.MoveLaws.{tc-at}
use Rattle.moves.proofs.rounds.write_tc_at.Goals as goal

pub returns : goal.returns
returns c = search (rules, tc-at)
