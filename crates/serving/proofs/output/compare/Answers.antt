-- The bytes that are equal are those that were expected.
use Rattle.serving.proofs.ByteLaws.{delivers-judged}
use Rattle.serving.proofs.output.compare.Goals as goal

pub returns : goal.returns
returns g c = delivers-judged _ _ _ _ _ _ _ c.requires.1 c.comparable-m.ensures.1 c.expect-got.ensures c.alike-same.ensures c.judged.ensures
