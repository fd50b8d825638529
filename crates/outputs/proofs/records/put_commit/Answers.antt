-- `outputs::records::put_commit` meets its contract: its fields in a row are the record (a law of `Recs`).
-- Assumes nothing.
use borrow.Author.Rules.{rules}
use Rattle.outputs.proofs.Recs.{commit-put}
use Rattle.outputs.proofs.records.put_commit.Goals as goal

pub returns : goal.returns
returns c = search (rules, commit-put)
