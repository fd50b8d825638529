-- `synchronizer::settle::process_block` meets its contract: a law for each way out.
-- Assumes nothing.
use Rattle.synchronizer.proofs.SettleLaws.{process-room, process-done, process-none}
use Rattle.synchronizer.proofs.settle.process_block.Goals as goal

pub commit-requires : goal.commit-requires
commit-requires c = process-room c.args.table.now c.args.w c.admit.ensures c.in-Ok.is _ c.requires

pub returns-in-Ok : goal.returns-in-Ok
returns-in-Ok c = process-done c.args.table.now c.args.w c.admit.ensures c.in-Ok.is c.commit.ensures

pub returns-in-Err : goal.returns-in-Err
returns-in-Err c = process-none c.args.table.now c.args.w c.admit.ensures c.args.out.now c.in-Err.is
