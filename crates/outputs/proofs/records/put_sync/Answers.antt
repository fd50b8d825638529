-- `outputs::records::put_sync` meets its contract: its fields in a row are the record (a law of `Recs`).
-- Assumes nothing.
use borrow.Author.Rules.{rules}
use Rattle.outputs.proofs.Recs.{sync-put}
use Rattle.outputs.proofs.records.put_sync.Goals as goal

pub returns : goal.returns
returns c = search (rules, sync-put)
