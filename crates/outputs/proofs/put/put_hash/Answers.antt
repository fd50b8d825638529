-- `outputs::put::put_hash` meets its contract: its fields in a row are the part (a law of `Recs`).
-- Assumes nothing.
use borrow.Author.Rules.{rules}
use Rattle.outputs.proofs.Recs.{hash-put}
use Rattle.outputs.proofs.put.put_hash.Goals as goal

pub returns : goal.returns
returns c = search (rules, hash-put)
