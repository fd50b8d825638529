-- `moves::rounds::process_qc` meets its contract: what `advance_round` did, and then the high QC raised (`qc-taken`).
-- Assumes nothing.
use borrow.Author.Rules.{rules}
use Rattle.moves.proofs.MoveLaws.{qc-taken}
use Rattle.moves.proofs.rounds.process_qc.Goals as goal

pub returns : goal.returns
returns c = search (rules, qc-taken)
