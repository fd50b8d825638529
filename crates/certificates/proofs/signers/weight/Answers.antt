-- `certificates::signers::weight` meets its contract. The loop's invariant: what has been summed and the stake of what is left of the word make
-- the stake of the whole word. Each turn takes the lowest place off what is left, which is the measure. Assumes nothing.
use native.Mathlib.Omega.{arith}
use mathlib.Core.Path.{◌≡◌}
use lib.Count.{count_trailing_zeros}
use Rattle.certificates.specs.Signers.{word_bits}
use Rattle.certificates.proofs.Sets.{Lowest, lowest, word_small, word_none, word-weight}
use Rattle.certificates.proofs.signers.weight.Goals as goal
use Rattle.certificates.proofs.signers.weight.Goals.{In-loop-left}

-- the lowest place of what is left, in a turn
low : (c : In-loop-left) → Lowest c.args.members.now c.loop-left.left (count_trailing_zeros word_bits c.loop-left.left)
low c = lowest c.args.members.now c.loop-left.left (omega arith) (omega arith)

pub overflow_add-sum : goal.overflow_add-sum
overflow_add-sum c =
    let whole = word_small c.args.members.now c.args.s.0 (λ i. (c.type_inv.members i).fits) in
    omega (arith, low (goal.at.overflow_add-sum c).In-loop-left, whole)

pub overflow_sub-left : goal.overflow_sub-left
overflow_sub-left c = omega (arith, low (goal.at.overflow_sub-left c).In-loop-left)

pub loop-left-preserved : goal.loop-left-preserved
loop-left-preserved c = rw (low (goal.at.loop-left-preserved c).In-loop-left).shifted (omega (arith, low (goal.at.loop-left-preserved c).In-loop-left))

pub returns : goal.returns
returns c =
    let a = c.args in
    let none : c.loop-left.left ≡ 0 = omega arith in
    let kept = c.loop-left.invariant.1 in
    omega (arith, word_none a.members.now, word-weight a.members.now a.s, rw none at kept)
