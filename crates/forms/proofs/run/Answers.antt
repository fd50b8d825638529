-- `forms::run` meets its contract: the invariant is `Going`, the measure what is left of the trace, of which each record takes two bytes at least.
-- Assumes nothing.
use borrow.Author.Rules.{rules}
use native.Mathlib.Omega.{arith}
use Rattle.forms.proofs.Runs.{in-trace, stopped, filled}
use Rattle.forms.proofs.run.Goals as goal

pub returns-in_default : goal.returns-in_default
returns-in_default c = search (rules, stopped)

pub overflow_add-used : goal.overflow_add-used
overflow_add-used c =
    omega (arith, in-trace c.loop-out.invariant c.answer_front.ensures c.in-Some.is)

pub loop-out-smaller : goal.loop-out-smaller
loop-out-smaller c =
    omega (arith, in-trace c.loop-out.invariant c.answer_front.ensures c.in-Some.is)

pub returns-after-loop-out : goal.returns-after-loop-out
returns-after-loop-out c = search (rules, filled)
