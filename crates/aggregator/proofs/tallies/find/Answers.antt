-- `aggregator::tallies::find` meets its contract: the iterator finds the lowest row that passes (`chunks-position`).
-- Assumes nothing.
use Rattle.std.proofs.Common.{◌∙◌, rules, tests, arith}
use Rattle.aggregator.specs.Tallies.{find_row}
use Rattle.aggregator.proofs.Chunks.{rows_cut, chunks-position}
use Rattle.aggregator.proofs.tallies.find.Goals as goal

pub returns : goal.returns
unfolding find_row
returns g c =
    let k = g.K.Key in
    let wide = g.met.K.Key.wide in
    let cut = c.chunks_exact.ensures in
    chunks-position k.WIDTH k.TALLIES c.args.table.now c.requires (omega arith) (k.test c.args.key) _ _ (λ x b q h. search (rules, tests)) _ (rows_cut (omega arith) _ cut.rest (cut.size ∙ c.WIDTH.ensures) cut.runs) _ c.position.ensures.runs
