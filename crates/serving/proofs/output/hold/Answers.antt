-- `serving::output::hold` meets its contract: the bytes come behind those that wait, or alone.
use Rattle.serving.proofs.ByteLaws.{delivers-behind, delivers-alone}
use Rattle.serving.proofs.output.hold.Goals as goal

pub returns-then-n-pack : goal.returns-then-n-pack
returns-then-n-pack g c =
    delivers-behind _ _ _ _ c.if-pack-held.false c.if-n-pack.true c.requires.0 c.requires.1 c.copy.ensures c.holding.ensures c.further.ensures

pub returns : goal.returns
returns g c =
    delivers-alone _ _ _ _ c.flush-u.ensures c.if-pack-held.false c.if-n-pack.false c.requires.0 c.requires.1 c.copy-2.ensures c.holding-2.ensures c.further-2.ensures
