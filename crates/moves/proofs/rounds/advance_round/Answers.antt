-- `moves::rounds::advance_round` meets its contract: the test says which case of `advanced` holds; the two calls drop, and TIMER RESET is written.
-- Assumes nothing.
use borrow.Author.Rules.{rules}
use Rattle.moves.proofs.MoveLaws.{advance-stays, advance-moves}
use Rattle.moves.proofs.rounds.advance_round.Goals as goal

pub returns-then-core-r : goal.returns-then-core-r
returns-then-core-r c = search (rules, advance-moves)

pub returns-else-core-r : goal.returns-else-core-r
returns-else-core-r c = search (rules, advance-stays)
