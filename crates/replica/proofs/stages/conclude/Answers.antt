-- `replica::stages::conclude` meets its contract.
-- Assumes nothing.
use Rattle.replica.proofs.StageCode.{conclude-needs, conclude-fits, concludes}
use borrow.Author.Rules.{rules}
use Rattle.replica.proofs.stages.conclude.Goals as goal

pub slice_bounds-members-end : goal.slice_bounds-members-end
slice_bounds-members-end c =
    let fits = conclude-fits _ _ _ c.requires.0 c.block_of-k.ensures in
    search (rules, fits)

pub make_vote-r-requires : goal.make_vote-r-requires
make_vote-r-requires c =
    conclude-needs _ _ _ c.requires.0 c.block_of-k.ensures _ c.requires.1

pub returns : goal.returns
returns c =
    concludes _ _ _ c.requires.0 c.block_of-k.ensures c.args.core c.make_vote-r.ensures
