-- `synchronizer::settle::admit` meets its contract, where the store is refused too.
-- Assumes nothing.
use Rattle.std.proofs.Common.{sym, ◌∙◌}
use Rattle.synchronizer.proofs.SettleLaws.{admit-full}
use Rattle.synchronizer.proofs.settle.admit.Goals as goal

pub returns-in-Err : goal.returns-in-Err
returns-in-Err c = admit-full _ _ (sym c.get_ancestors.ensures ∙ c.in_ok-found.was) c.in-Err.ensures
