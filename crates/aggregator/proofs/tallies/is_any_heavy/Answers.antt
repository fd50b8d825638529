-- `aggregator::tallies::is_any_heavy` meets its contract: a law for each way out.
-- Assumes nothing.
use Rattle.std.proofs.Common.{arith, rules}
use Rattle.std.proofs.lemmas.Grind.{common_steps}
use Rattle.aggregator.proofs.TableLaws.{look-heavy, look-end}
use Rattle.aggregator.proofs.tallies.is_any_heavy.Goals as goal

pub returns-then-is_heavy : goal.returns-then-is_heavy
returns-then-is_heavy g c =
    let wide = g.met.K.Key.wide in
    look-heavy _ _ _ _ c.loop-i.i wide (search rules) (omega arith) (grind (arith, common_steps)) c.is_heavy.ensures c.if-is_heavy.true

pub returns : goal.returns
returns g c = search (rules, look-end)
