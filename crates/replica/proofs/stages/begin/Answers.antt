-- `replica::stages::begin` meets its contract: a law for each way out.
-- Assumes nothing.
use Rattle.replica.proofs.StageCode.{begin-bad, begin-start, begin-not-started, begin-again, begin-ready, ready-needs}
use borrow.Author.Rules.{rules}
use Rattle.replica.proofs.stages.begin.Goals as goal

pub returns-in_default : goal.returns-in_default
returns-in_default c =
    search (rules, begin-bad)

pub returns-then-is_start : goal.returns-then-is_start
returns-then-is_start c =
    begin-start _ _ _ _ _ _ _ _ c.form_of.ensures c.in-Some.is c.total_of.ensures c.is_start.ensures c.in-None.is c.if-is_start.true c.start.ensures

pub returns-then-is_start-2 : goal.returns-then-is_start-2
returns-then-is_start-2 c =
    search (rules, begin-again)

pub ready-requires : goal.ready-requires
ready-requires c =
    ready-needs _ _ _ _ c.total_of.ensures c.in-Some-total_of.is

pub returns-else-is_start : goal.returns-else-is_start
returns-else-is_start c =
    search (rules, begin-not-started)

pub returns-else-is_start-2 : goal.returns-else-is_start-2
returns-else-is_start-2 c =
    begin-ready _ _ _ _ _ _ _ _ c.form_of.ensures c.in-Some.is c.total_of.ensures c.is_start-in-Some-total_of.ensures c.in-Some-total_of.is c.if-is_start-2.false c.ready.ensures
