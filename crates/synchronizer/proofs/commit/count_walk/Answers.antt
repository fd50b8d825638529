-- `synchronizer::commit::count_walk` meets its contract: a law for each way out, and for one parent more.
-- Assumes nothing.
use Rattle.std.proofs.Common.{rules, ◌≡◌, ◌+◌, ◌<◌, Ok, sym, ◌∙◌, ap}
use Rattle.std.proofs.lemmas.Result.{err_from_is_err_and}
use borrow.Author.Tests.{ltb-true, ltb-false}
use Rattle.synchronizer.specs.Table.{parent_of}
use Rattle.synchronizer.specs.Parts.{next_walked}
use Rattle.synchronizer.proofs.WalkLaws.{counts-none, counts-start, counts-near, counts-refused, counts-ends, counts-falls, counts-more}
use Rattle.synchronizer.proofs.commit.count_walk.Goals as goal
use Rattle.synchronizer.proofs.commit.count_walk.Goals.{After-next_walked}

pub returns-then-b0-last : goal.returns-then-b0-last
returns-then-b0-last c = search (rules, counts-none)

pub loop-last-init : goal.loop-last-init
loop-last-init c = search (rules, counts-start)

-- in a turn the block is above the last committed round plus 1
above : (c : After-next_walked) → c.args.last.0 + 1 < c.loop-last.block.round.0
above c = ltb-true _ _ (sym c.is_above_next.ensures ∙ c.loop-last-test.true)

next : (c : After-next_walked) → c.next_walked.result ≡ next_walked c.loop-last.block.round.0 c.args.last.0 (parent_of c.args.table.now c.loop-last.block)
next c = rw (← c.get_parent_block.ensures) c.next_walked.ensures

pub loop-last-preserved : goal.loop-last-preserved
loop-last-preserved c =
    let at = (goal.at.loop-last-preserved c).After-next_walked in
    counts-more _ _ _ _ _ c.loop-last.invariant _ (above at) (next at) _ (c.in_ok-parent.was ∙ ap Ok c.in-Some.is)

pub loop-last-smaller : goal.loop-last-smaller
loop-last-smaller c =
    let at = (goal.at.loop-last-smaller c).After-next_walked in
    counts-falls _ _ _ _ _ c.loop-last.invariant _ (above at) (next at) _ (c.in_ok-parent.was ∙ ap Ok c.in-Some.is)

pub returns-in_err-parent : goal.returns-in_err-parent
returns-in_err-parent c =
    let at = (goal.at.returns-in_err-parent c).After-next_walked in
    let p = err_from_is_err_and c.from_residual.result c.from_residual.ensures.1 in
    rw (p.1, p.2) (counts-refused _ _ _ _ _ c.loop-last.invariant _ (above at) (next at) _ c.in_err-parent.was)

pub returns-in_default : goal.returns-in_default
returns-in_default c =
    let at = (goal.at.returns-in_default c).After-next_walked in
    counts-ends _ _ _ _ _ c.loop-last.invariant _ (above at) (next at) (c.in_ok-parent.was ∙ ap Ok c.in_default.is)

pub returns-after-loop-last : goal.returns-after-loop-last
returns-after-loop-last c = counts-near _ _ _ _ _ c.loop-last.invariant (ltb-false _ _ (sym c.is_above_next.ensures ∙ c.loop-last-test.false))
