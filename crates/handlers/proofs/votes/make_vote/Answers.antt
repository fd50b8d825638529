-- `handlers::votes::make_vote` meets its contract: each way out by the tests that led there.
-- Assumes nothing.
use borrow.Author.Rules.{rules}
use Rattle.handlers.proofs.VoteLaws.{voting-past, voting-not, voting-voted}
use Rattle.handlers.proofs.votes.make_vote.Goals as goal

pub returns-then-may_vote : goal.returns-then-may_vote
returns-then-may_vote c = search (rules, voting-voted)

pub returns-then-b-core : goal.returns-then-b-core
returns-then-b-core c = search (rules, voting-not)

pub returns : goal.returns
returns c = search (rules, voting-past)
