-- `moves::rounds::update_high_qc` meets its contract: the test says whether the QC replaces the high QC.
-- Assumes nothing.
use borrow.Author.Rules.{rules}
use Rattle.moves.proofs.MoveLaws.{raise-new, raise-old}
use Rattle.moves.proofs.rounds.update_high_qc.Goals as goal

pub returns-then-core-qc : goal.returns-then-core-qc
returns-then-core-qc c = search (rules, raise-new)

pub returns-else-core-qc : goal.returns-else-core-qc
returns-else-core-qc c = search (rules, raise-old)
