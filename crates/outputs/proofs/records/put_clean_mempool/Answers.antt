-- `outputs::records::put_clean_mempool` meets its contract: its fields in a row are the record (a law of `Recs`).
-- Assumes nothing.
use borrow.Author.Rules.{rules}
use Rattle.outputs.proofs.Recs.{clean-mempool-put}
use Rattle.outputs.proofs.records.put_clean_mempool.Goals as goal

pub returns : goal.returns
returns c = search (rules, clean-mempool-put)
