-- `outputs::put::put8` meets its contract: a byte is its own lowest byte.
-- Assumes nothing.
use Rattle.outputs.proofs.Writes.{one-digit}
use Rattle.outputs.proofs.put.put8.Goals as goal

pub returns : goal.returns
returns c = rw (one-digit c.args.x c.ranges.x.fits) at c.put.ensures
