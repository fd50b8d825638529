-- `outputs::put::put_tc_body` meets its contract: its fields in a row are the part (a law of `Recs`).
-- Assumes nothing.
use borrow.Author.Rules.{rules}
use Rattle.outputs.proofs.Recs.{tc-body-put}
use Rattle.outputs.proofs.put.put_tc_body.Goals as goal

pub returns : goal.returns
returns c = search (rules, tc-body-put)
