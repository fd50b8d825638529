-- `outputs::records::put_make` meets its contract: its fields in a row are the record (a law of `Recs`).
-- Assumes nothing.
use borrow.Author.Rules.{rules}
use Rattle.outputs.proofs.Recs.{make-put}
use Rattle.outputs.proofs.records.put_make.Goals as goal

pub returns : goal.returns
returns c = search (rules, make-put)
