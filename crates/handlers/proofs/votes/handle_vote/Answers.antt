-- `handlers::votes::handle_vote` meets its contract: a refused vote leaves everything; any other is counted. Assumes nothing.
use borrow.Author.Rules.{rules}
use Rattle.handlers.proofs.VoteLaws.{vote-member, vote-refused, vote-passed}
use Rattle.handlers.proofs.votes.handle_vote.Goals as goal

pub count_vote-requires : goal.count_vote-requires
count_vote-requires c = search (rules, vote-member)

pub returns-in-Ok : goal.returns-in-Ok
returns-in-Ok c = search (rules, vote-passed)

pub returns-in-Err : goal.returns-in-Err
returns-in-Err c = search (rules, vote-refused)
