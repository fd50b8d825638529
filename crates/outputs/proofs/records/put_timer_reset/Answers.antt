-- `outputs::records::put_timer_reset` meets its contract: its fields in a row are the record (a law of `Recs`).
-- Assumes nothing.
use borrow.Author.Rules.{rules}
use Rattle.outputs.proofs.Recs.{timer-reset-put}
use Rattle.outputs.proofs.records.put_timer_reset.Goals as goal

pub returns : goal.returns
returns c = search (rules, timer-reset-put)
