-- `synchronizer::ancestors::get_ancestors` meets its contract: a law for each way out.
-- Assumes nothing.
use Rattle.synchronizer.proofs.TableLaws.{no-parent, no-grandparent, both-found}
use Rattle.synchronizer.proofs.ancestors.get_ancestors.Goals as goal

pub returns-in_default : goal.returns-in_default
returns-in_default c = no-parent _ _ c.get_parent_block.ensures c.in_default.is c.genesis_block.ensures c.empty.ensures

pub returns-in_default-get_parent_block : goal.returns-in_default-get_parent_block
returns-in_default-get_parent_block c =
    no-grandparent _ _ c.get_parent_block.ensures c.in-Some.is c.get_parent_block-2.ensures c.in_default-get_parent_block.is
    c.empty-in_default-get_parent_block.ensures

pub returns : goal.returns
returns c = both-found _ _ c.get_parent_block.ensures c.in-Some.is c.get_parent_block-2.ensures c.in-Some-get_parent_block.is
