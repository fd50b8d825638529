-- `handlers::proposals::leader_check` meets its contract: another leader, or what the author's check gives. Assumes nothing.
use borrow.Author.Rules.{rules}
use Rattle.handlers.proofs.ProposalLaws.{leader-other, leader-author}
use Rattle.handlers.proofs.proposals.leader_check.Goals as goal

pub returns-then-leader-b : goal.returns-then-leader-b
returns-then-leader-b c = search (rules, leader-author)

pub returns : goal.returns
returns c = search (rules, leader-other)

pub returns-in_err-check_author : goal.returns-in_err-check_author
returns-in_err-check_author c = search (rules, leader-author)
