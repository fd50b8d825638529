-- `nickelhush::memory::core_out` meets its contract: all nine numbers are written.
-- Assumes nothing.
use native.Mathlib.Omega.{arith}
use lib.ListN.{length-set}
use Rattle.aggregator.proofs.Rows.{sets-whole}
use Rattle.nickelhush.specs.Memory.{core_numbers}
use Rattle.nickelhush.proofs.memory.core_out.Goals as goal

pub bounds-core-4 : goal.bounds-core-4
bounds-core-4 c = simp length-set (omega arith)

pub bounds-core-5 : goal.bounds-core-5
bounds-core-5 c = simp length-set (omega arith)

pub bounds-core-6 : goal.bounds-core-6
bounds-core-6 c = simp length-set (omega arith)

pub bounds-core-7 : goal.bounds-core-7
bounds-core-7 c = simp length-set (omega arith)

pub bounds-core-8 : goal.bounds-core-8
bounds-core-8 c = simp length-set (omega arith)

pub returns : goal.returns
returns c = sets-whole c.args.core.now (core_numbers c.args.c) c.requires
