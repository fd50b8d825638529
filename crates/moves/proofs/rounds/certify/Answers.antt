-- `moves::rounds::certify` meets its contract: what `process_qc` did, and then what `generate_proposal` wrote (`qc-certified`).
-- Assumes nothing.
use borrow.Author.Rules.{rules}
use Rattle.moves.proofs.MoveLaws.{qc-certified}
use Rattle.moves.proofs.rounds.certify.Goals as goal

pub returns : goal.returns
returns c = search (rules, qc-certified)
