-- `handlers::votes::own_vote` meets its contract: without stake it is refused; else it is counted. Assumes nothing.
use borrow.Author.Rules.{rules}
use Rattle.handlers.proofs.VoteLaws.{own-vote-refused, own-vote-passed}
use Rattle.handlers.proofs.votes.own_vote.Goals as goal

pub returns-in-Ok : goal.returns-in-Ok
returns-in-Ok c = search (rules, own-vote-passed)

pub returns-in-Err : goal.returns-in-Err
returns-in-Err c = search (rules, own-vote-refused)
