-- `owned::stages::close` meets its contract: what `finish` ensures, with the fields put back. Assumes nothing.
use mathlib.Core.Path.{refl}
use Rattle.owned.proofs.stages.close.Goals as goal

pub returns : goal.returns
returns c =
    record { held = refl; done = c.finish-x.ensures }
