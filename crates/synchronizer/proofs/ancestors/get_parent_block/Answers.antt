-- `synchronizer::ancestors::get_parent_block` meets its contract: a law for each way out.
-- Assumes nothing.
use Rattle.std.proofs.Common.{rules}
use Rattle.synchronizer.proofs.TableLaws.{given-genesis, given-none, given-some}
use Rattle.synchronizer.proofs.ancestors.get_parent_block.Goals as goal

pub returns-then-is_genesis : goal.returns-then-is_genesis
returns-then-is_genesis c = search (rules, given-genesis)

pub returns-in_err-i : goal.returns-in_err-i
returns-in_err-i c = search (rules, given-none)

pub returns : goal.returns
returns c = search (rules, given-some)
