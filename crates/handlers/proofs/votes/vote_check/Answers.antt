-- `handlers::votes::vote_check` meets its contract: each way out by the tests that led there. Assumes nothing.
use borrow.Author.Rules.{rules}
use Rattle.handlers.proofs.VoteLaws.{vote-stale, vote-author}
use Rattle.handlers.proofs.votes.vote_check.Goals as goal

pub returns-then-v-current : goal.returns-then-v-current
returns-then-v-current c = search (rules, vote-stale)

pub returns : goal.returns
returns c = search (rules, vote-author)

pub returns-in_err-check_author : goal.returns-in_err-check_author
returns-in_err-check_author c = search (rules, vote-author)
