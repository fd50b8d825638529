-- `outputs::put::put16` meets its contract: `to_le_bytes` has the bytes, the lowest first (`le_digits`).
-- Assumes nothing.
use Rattle.std.proofs.Common.{◌∙◌}
use Rattle.outputs.proofs.Writes.{le_digits}
use Rattle.outputs.proofs.put.put16.Goals as goal

pub returns : goal.returns
returns c = rw (c.to_le_bytes.ensures ∙ le_digits 2 c.args.x) at c.put.ensures
