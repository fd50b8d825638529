-- `outputs::records::put_timeout` meets its contract: its fields in a row are the record (a law of `Recs`).
-- Assumes nothing.
use borrow.Author.Rules.{rules}
use Rattle.outputs.proofs.Recs.{timeout-put}
use Rattle.outputs.proofs.records.put_timeout.Goals as goal

pub returns : goal.returns
returns c = search (rules, timeout-put)
