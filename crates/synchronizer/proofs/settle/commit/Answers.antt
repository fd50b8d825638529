-- `synchronizer::settle::commit` meets its contract: a law for each way out.
-- Assumes nothing.
use borrow.Author.Tests.{lt-ltb, le-ltb}
use Rattle.synchronizer.proofs.SettleLaws.{commit-done, commit-stopped}
use Rattle.synchronizer.proofs.settle.commit.Goals as goal
use Rattle.synchronizer.proofs.settle.commit.Goals.{then-left-gt0, else-left-gt0}

pub returns-after-left-gt0 : goal.returns-after-left-gt0
returns-after-left-gt0 c =
    commit-done c.args.table.now c.args.w c.args.a c.requires c.write_clean-at.ensures c.in-Ok.ensures c.write_commits.ensures
    (elim c.if-left-gt0.branch [
      | then-left-gt0 w ↦ rw (w.result-is, lt-ltb _ _ w.if-left-gt0.true)
      | else-left-gt0 w ↦ rw (w.result-is, le-ltb _ _ w.if-left-gt0.false)
    ])

pub returns-in-Err : goal.returns-in-Err
returns-in-Err c = commit-stopped c.args.table.now c.args.w c.args.a c.requires c.write_clean-at.ensures c.in-Err.ensures
