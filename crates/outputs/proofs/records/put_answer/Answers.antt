-- `outputs::records::put_answer` meets its contract: its fields in a row are the record (a law of `Recs`).
-- Assumes nothing.
use borrow.Author.Rules.{rules}
use Rattle.outputs.proofs.Recs.{answer-put}
use Rattle.outputs.proofs.records.put_answer.Goals as goal

pub returns : goal.returns
returns c = search (rules, answer-put)
