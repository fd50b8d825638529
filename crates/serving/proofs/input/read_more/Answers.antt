-- What a read brought stands behind what was there, and is taken off the limit.
use Rattle.serving.proofs.ByteLaws.{refills-brought}
use Rattle.serving.proofs.input.read_more.Goals as goal

pub returns : goal.returns
returns g c = refills-brought _ _ _ c.fill.ensures.1 c.fill.result _ _ c.if-have-at.false c.readable-n.ensures c.fill.ensures.0 c.brought.ensures
