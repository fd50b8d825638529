-- `synchronizer::settle::count_commit` meets its contract: a law for each branch.
-- Assumes nothing.
use Rattle.std.proofs.Common.{sym, ◌∙◌}
use Rattle.synchronizer.proofs.SettleLaws.{count-walked, count-none}
use Rattle.synchronizer.proofs.settle.count_commit.Goals as goal

pub returns-then-is_two_chain : goal.returns-then-is_two_chain
returns-then-is_two_chain c = count-walked _ _ _ _ _ (sym c.is_two_chain.ensures ∙ c.if-is_two_chain.true) c.count_walk.ensures

pub returns-else-is_two_chain : goal.returns-else-is_two_chain
returns-else-is_two_chain c = count-none _ _ _ _ (sym c.is_two_chain.ensures ∙ c.if-is_two_chain.false)
