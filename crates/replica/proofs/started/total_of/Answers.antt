-- `replica::started::total_of` meets its contract: a shaped record has tallies of the right sizes.
-- Assumes nothing.
use Rattle.replica.proofs.StartedLaws.{shaped-fits, shaped-long, shaped-wide}
use borrow.Author.Rules.{rules}
use Rattle.replica.proofs.started.total_of.Goals as goal

pub slice_bounds-total_stake-end : goal.slice_bounds-total_stake-end
slice_bounds-total_stake-end c = search (rules, shaped-fits)

pub light_in-requires : goal.light_in-requires
light_in-requires c = search (rules, shaped-long, shaped-wide)
