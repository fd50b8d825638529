-- `turns::turn::ahead_of` meets its contract: a law for each front, and the sums stay within what was read.
-- Assumes nothing.
use Rattle.turns.proofs.Fronts.{ahead_end, ahead_cut, ahead_one, one_within}
use native.Mathlib.Omega.{arith}
use borrow.Author.Rules.{rules}
use Rattle.turns.proofs.turn.ahead_of.Goals as goal

pub overflow_add-result : goal.overflow_add-result
overflow_add-result c = omega (arith, one_within c.args.run.at c.args.run.have c.args.trace.now c.front_from.ensures c.in-Small.is)

pub overflow_add-result-in-Small : goal.overflow_add-result-in-Small
overflow_add-result-in-Small c = omega (arith, one_within c.args.run.at c.args.run.have c.args.trace.now c.front_from.ensures c.in-Small.is)

pub returns-in-End : goal.returns-in-End
returns-in-End c = search (rules, ahead_end)

pub returns-in-Cut : goal.returns-in-Cut
returns-in-Cut c = search (rules, ahead_cut)

pub returns-in-Small : goal.returns-in-Small
returns-in-Small c = ahead_one _ c.front_from.ensures c.args.run.at c.in-Small.is
