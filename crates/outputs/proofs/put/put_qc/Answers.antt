-- `outputs::put::put_qc` meets its contract: its fields in a row are the part (a law of `Recs`).
-- Assumes nothing.
use borrow.Author.Rules.{rules}
use Rattle.outputs.proofs.Recs.{qc-put}
use Rattle.outputs.proofs.put.put_qc.Goals as goal

pub returns : goal.returns
returns c = search (rules, qc-put)
