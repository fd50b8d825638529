-- `replica::started::light_in` meets its contract: a law for each way out.
-- Assumes nothing.
use Rattle.replica.proofs.StartedLaws.{light-all, light-not}
use borrow.Author.Rules.{rules}
use Rattle.replica.proofs.started.light_in.Goals as goal

pub returns-then-are_light : goal.returns-then-are_light
returns-then-are_light c = search (rules, light-all)

pub returns-else-are_light : goal.returns-else-are_light
returns-else-are_light c = search (rules, light-not)
