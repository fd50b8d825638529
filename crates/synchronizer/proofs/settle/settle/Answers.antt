-- `synchronizer::settle::settle` meets its contract: a law for each task.
-- Assumes nothing.
use Rattle.std.proofs.Common.{arith, refl}
use Rattle.synchronizer.proofs.SettleLaws.{ask-room, ask-done, settle-store, settle-clear, settle-idle}
use Rattle.synchronizer.proofs.settle.settle.Goals as goal

pub ask_parent-requires : goal.ask_parent-requires
ask_parent-requires c = ask-room c.args.table.now _ c.process_block-s.ensures (c.requires (rw c.in-Store.is refl)) (omega arith)

pub returns-in-Store : goal.returns-in-Store
returns-in-Store c = settle-store c.args.table.now c.args.w c.in-Store.is (ask-done c.args.table.now _ c.process_block-s.ensures c.ask_parent.ensures)

pub returns-in-Nothing : goal.returns-in-Nothing
returns-in-Nothing c = settle-idle c.args.table.now c.args.w c.args.out.now c.in-Nothing.is

pub returns-in-Clear : goal.returns-in-Clear
returns-in-Clear c = settle-clear c.args.table.now c.args.w c.args.out.now c.in-Clear.is c.clear.ensures
