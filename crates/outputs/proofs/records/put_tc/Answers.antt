-- `outputs::records::put_tc` meets its contract: its fields in a row are the record (a law of `Recs`).
-- Assumes nothing.
use borrow.Author.Rules.{rules}
use Rattle.outputs.proofs.Recs.{tc-put}
use Rattle.outputs.proofs.records.put_tc.Goals as goal

pub returns : goal.returns
returns c = search (rules, tc-put)
