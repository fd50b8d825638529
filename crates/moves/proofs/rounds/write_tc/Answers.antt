-- `moves::rounds::write_tc` meets its contract: TC is written, and then what `generate_proposal_with` writes (`tc-wrote`).
-- Assumes nothing.
use borrow.Author.Rules.{rules}
use Rattle.moves.proofs.MoveLaws.{tc-wrote}
use Rattle.moves.proofs.rounds.write_tc.Goals as goal

pub returns : goal.returns
returns c = search (rules, tc-wrote)
