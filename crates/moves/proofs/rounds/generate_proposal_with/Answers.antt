-- `moves::rounds::generate_proposal_with` meets its contract: the test says whether MAKE is written.
-- Assumes nothing.
use borrow.Author.Rules.{rules}
use Rattle.moves.proofs.MoveLaws.{make-with-leads, make-with-follows}
use Rattle.moves.proofs.rounds.generate_proposal_with.Goals as goal

pub returns-then-leader-members : goal.returns-then-leader-members
returns-then-leader-members c = search (rules, make-with-leads)

pub returns-else-leader-members : goal.returns-else-leader-members
returns-else-leader-members c = search (rules, make-with-follows)
