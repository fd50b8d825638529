-- `outputs::put::put_entry` meets its contract: two writes in a row (`joins`).
-- Assumes nothing.
use borrow.Author.Rules.{rules}
use Rattle.outputs.proofs.Writes.{joins}
use Rattle.outputs.proofs.put.put_entry.Goals as goal

pub returns : goal.returns
returns c = search (rules, joins)
