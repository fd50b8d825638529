-- `outputs::records::put_vote` meets its contract: its fields in a row are the record (a law of `Recs`).
-- Assumes nothing.
use borrow.Author.Rules.{rules}
use Rattle.outputs.proofs.Recs.{vote-put}
use Rattle.outputs.proofs.records.put_vote.Goals as goal

pub returns : goal.returns
returns c = search (rules, vote-put)
