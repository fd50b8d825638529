-- `aggregator::tallies::add` meets its contract: no room, or the author is counted in the tally that was found or opened: a law for each.
-- Assumes nothing.
use Rattle.std.proofs.Common.{rules}
use Rattle.aggregator.proofs.TableLaws.{tally-below, add-fits, add-full, add-counted}
use Rattle.aggregator.proofs.tallies.add.Goals as goal

pub append_at-requires : goal.append_at-requires
append_at-requires g c = (search rules, search (rules, tally-below), search rules, add-fits (g.met.K.Key.keyed c.args.key) _ _ c.args.need.0 c.tally.ensures c.in-Some.is c.requires)

pub returns-in-Some : goal.returns-in-Some
returns-in-Some g c = add-counted (g.met.K.Key.keyed c.args.key) _ _ _ c.tally.ensures _ c.requires c.in-Some.is c.append_at.ensures

pub returns-in-None : goal.returns-in-None
returns-in-None g c = add-full (g.met.K.Key.keyed c.args.key) _ _ _ c.tally.ensures _ c.in-None.is
