-- `nickelhush::memory::seat_out` meets its contract: both numbers are written.
-- Assumes nothing.
use mathlib.Core.List.{[], ◌∷◌}
use Rattle.aggregator.proofs.Rows.{sets-whole}
use Rattle.nickelhush.proofs.memory.seat_out.Goals as goal

pub returns : goal.returns
returns c = sets-whole c.args.seat.now (c.args.s.count ∷ c.args.s.own.0 ∷ []) c.requires
