-- `outputs::put::put` meets its contract: the bytes are copied to the part that is lent (`part-put`).
-- Assumes nothing.
use Rattle.outputs.proofs.Writes.{part-put}
use Rattle.outputs.proofs.put.put.Goals as goal

pub returns : goal.returns
returns g c = part-put c.args.out.now c.args.at g.row.N c.requires c.copy_from_slice.ensures.len c.copy_from_slice.ensures.after
