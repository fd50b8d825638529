-- `outputs::put::put_entries` meets its contract. The loop's invariant: the entries of the places that are left, written from here on, make all of
-- them (`Left` of `Recs`). Each turn takes the lowest place off the rest, which is the measure.
-- Assumes nothing.
use native.Mathlib.Omega.{arith}
use lib.Count.{count_trailing_zeros}
use borrow.Author.Rules.{rules}
use Rattle.outputs.proofs.Places.{ones-most, Lowest, lowest}
use Rattle.outputs.proofs.Recs.{left-all, left_less, left-none}
use Rattle.outputs.proofs.put.put_entries.Goals as goal
use Rattle.outputs.proofs.put.put_entries.Goals.{In-loop-left}

-- the lowest place of the rest, in a turn
low : (c : In-loop-left) → Lowest c.loop-left.left (count_trailing_zeros 64 c.loop-left.left)
low c = lowest c.loop-left.left (omega arith) (omega arith)

pub loop-left-init : goal.loop-left-init
loop-left-init c = (omega arith, search rules, left-all _ _ _ _)

pub overflow_cast-p : goal.overflow_cast-p
overflow_cast-p c = omega (arith, low (goal.at.overflow_cast-p c).In-loop-left)

pub overflow_cast-p-in-loop-left : goal.overflow_cast-p-in-loop-left
overflow_cast-p-in-loop-left c = omega (arith, low (goal.at.overflow_cast-p-in-loop-left c).In-loop-left)

pub offset_bounds-highs-p : goal.offset_bounds-highs-p
offset_bounds-highs-p c = omega (arith, low (goal.at.offset_bounds-highs-p c).In-loop-left)

pub bounds-highs-p : goal.bounds-highs-p
bounds-highs-p c = omega (arith, low (goal.at.bounds-highs-p c).In-loop-left)

pub put_entry-to-requires : goal.put_entry-to-requires
put_entry-to-requires c = omega (arith, low (goal.at.put_entry-to-requires c).In-loop-left, ones-most c.args.names (omega arith))

pub overflow_cast-left : goal.overflow_cast-left
overflow_cast-left c = omega (arith, low (goal.at.overflow_cast-left c).In-loop-left)

pub overflow_shl-left : goal.overflow_shl-left
overflow_shl-left c = omega (arith, low (goal.at.overflow_shl-left c).In-loop-left)

pub overflow_sub-left : goal.overflow_sub-left
overflow_sub-left c = omega (arith, low (goal.at.overflow_sub-left c).In-loop-left)

pub loop-left-smaller : goal.loop-left-smaller
loop-left-smaller c = omega (arith, low (goal.at.loop-left-smaller c).In-loop-left)

pub loop-left-preserved : goal.loop-left-preserved
loop-left-preserved c =
    let t = low (goal.at.loop-left-preserved c).In-loop-left in
    let more = left_less _ _ _ _ c.loop-left.invariant.2 t c.put_entry-to.ensures in
    (omega (arith, t), search rules, rw t.shifted more)

pub returns : goal.returns
returns c = search (rules, left-none)
