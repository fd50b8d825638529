-- `outputs::records::put_clean_proposer` meets its contract: its fields in a row are the record (a law of `Recs`).
-- Assumes nothing.
use borrow.Author.Rules.{rules}
use Rattle.outputs.proofs.Recs.{clean-proposer-put}
use Rattle.outputs.proofs.records.put_clean_proposer.Goals as goal

pub returns : goal.returns
returns c = search (rules, clean-proposer-put)
