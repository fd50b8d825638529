-- `replica::stages::finish` meets its contract: a law for each way out.
-- Assumes nothing.
use Rattle.replica.proofs.StageCode.{finish-votes, finish-refused, finish-ended}
use borrow.Author.Rules.{rules}
use Rattle.replica.proofs.stages.finish.Goals as goal

pub conclude-requires : goal.conclude-requires
conclude-requires c =
    (c.requires.going c.in-Block.is, c.requires.room c.in-Block.is)

pub returns-in-Ok : goal.returns-in-Ok
returns-in-Ok c =
    finish-votes _ _ c.args.b.core _ _ _ _ _ _ _ _ c.in-Block.is c.in-Ok.is c.conclude.ensures

pub returns-in-Err : goal.returns-in-Err
returns-in-Err c = search (rules, finish-refused)

pub returns : goal.returns
returns c = search (rules, finish-ended)
