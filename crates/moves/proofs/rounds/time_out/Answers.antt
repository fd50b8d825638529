-- `moves::rounds::time_out` meets its contract: below the round nothing moves; else the parts of an advance, with the TC between them.
-- Assumes nothing.
use borrow.Author.Rules.{rules}
use Rattle.moves.proofs.MoveLaws.{timeout-stays, timeout-moves}
use Rattle.moves.proofs.rounds.time_out.Goals as goal

pub returns-then-round-core : goal.returns-then-round-core
returns-then-round-core c = search (rules, timeout-stays)

pub returns : goal.returns
returns c = search (rules, timeout-moves)
