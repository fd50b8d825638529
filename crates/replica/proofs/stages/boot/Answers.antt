-- `replica::stages::boot` meets its contract: the parts of the record, one by one (`boots`).
-- Assumes nothing.
use Rattle.replica.proofs.StageCode.{boot-fits, boots}
use borrow.Author.Rules.{rules}
use Rattle.replica.proofs.stages.boot.Goals as goal

pub slice_bounds-members-end : goal.slice_bounds-members-end
slice_bounds-members-end c =
    let fits = boot-fits _ _ _ _ _ _ _ _ c.requires c.seat_of-taken.ensures c.fill.ensures in
    search (rules, fits)

pub announce-at-requires : goal.announce-at-requires
announce-at-requires c =
    c.requires.room

pub returns : goal.returns
returns c =
    boots c.args.seat _ c.args.core _ _ _ _ _ c.requires c.seat_of-taken.ensures c.fill.ensures c.new_core-fresh.ensures c.announce-at.ensures
