-- `synchronizer::commit::write_commits` meets its contract.
-- Assumes nothing.
use Rattle.std.proofs.Common.{◌≡◌, ◌+◌, ◌-◌, arith}
use Rattle.synchronizer.specs.Table.{parent_of, slot_in}
use Rattle.synchronizer.proofs.ChainLaws.{pending-less, pending-none}
use Rattle.synchronizer.proofs.commit.write_commits.Goals as goal

pub loop-left-preserved-then-left-gt0 : goal.loop-left-preserved-then-left-gt0
loop-left-preserved-then-left-gt0 c =
    let n = c.loop-left.left - 1 in
    let one : c.loop-left.left ≡ n + 1 = omega arith in
    let next : c.unwrap_or-block.result ≡ slot_in (parent_of c.args.table.now c.loop-left.block) = rw (c.unwrap_or-block.ensures, c.get_parent_block.ensures, c.empty.ensures) in
    pending-less c.args.table.now c.args.c c.loop-left.block _ n _ (rw one at c.loop-left.invariant) c.put_commit.ensures (λ _. next)

pub loop-left-preserved : goal.loop-left-preserved
loop-left-preserved c =
    let n = c.loop-left.left - 1 in
    let one : c.loop-left.left ≡ n + 1 = omega arith in
    pending-less c.args.table.now c.args.c c.loop-left.block _ n _ (rw one at c.loop-left.invariant) c.put_commit.ensures (λ h. absurd (omega arith))

pub returns : goal.returns
returns c =
    let none : c.loop-left.left ≡ 0 = omega arith in
    pending-none c.args.table.now c.args.c c.loop-left.block (rw none at c.loop-left.invariant)
