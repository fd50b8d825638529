-- `is_of` of a vote's key meets its contract: a law for each way out.
-- Assumes nothing.
use Rattle.std.proofs.Common.{rules}
use Rattle.aggregator.proofs.TallyLaws.{is-vote-free, is-vote-same, is-vote-other}
use Rattle.aggregator.proofs.tally.VoteKeyKey.is_of.Goals as goal

pub returns-then-t-self : goal.returns-then-t-self
returns-then-t-self c = search (rules, is-vote-same)

pub returns-else-t-self : goal.returns-else-t-self
returns-else-t-self c = search (rules, is-vote-free, is-vote-other)
