-- `synchronizer::settle::write_clean` meets its contract: a law for each way out.
-- Assumes nothing.
use Rattle.std.proofs.Common.{rules}
use Rattle.synchronizer.proofs.SettleLaws.{clean-both, clean-one}
use Rattle.synchronizer.proofs.settle.write_clean.Goals as goal

pub returns-then-is_two_chain : goal.returns-then-is_two_chain
returns-then-is_two_chain c = search (rules, clean-both)

pub returns : goal.returns
returns c = search (rules, clean-one)
