-- `replica::stages::propose` meets its contract: a law for each way out.
-- Assumes nothing.
use Rattle.replica.proofs.StageCode.{propose-needs, propose-ends, propose-goes}
use borrow.Author.Rules.{rules}
use mathlib.Core.Path.{sym, ◌∙◌}
use Rattle.replica.proofs.stages.propose.Goals as goal

pub handle_proposal-r-requires : goal.handle_proposal-r-requires
handle_proposal-r-requires c =
    propose-needs _ _ c.requires.0 c.requires.2 c.block_of-b.ensures c.requires.1

pub returns-then-is_ok : goal.returns-then-is_ok
returns-then-is_ok c =
    propose-goes _ _ _ _ _ _ _ c.block_of-b.ensures c.payload_of-payload.ensures c.handle_proposal-r.ensures (sym c.is_ok.ensures.value ∙ c.if-is_ok.true) c.requires.0 c.requires.1

pub returns : goal.returns
returns c = search (rules, propose-ends)
