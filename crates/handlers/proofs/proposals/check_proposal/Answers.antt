-- `handlers::proposals::check_proposal` meets its contract: the checks one by one. Assumes nothing.
use borrow.Author.Rules.{rules}
use Rattle.handlers.proofs.ProposalLaws.{check-leader, check-qc, check-tc, check-passed}
use Rattle.handlers.specs.Proposals.{proposal_check}
use Rattle.handlers.proofs.proposals.check_proposal.Goals as goal

pub returns-in_err-leader_check : goal.returns-in_err-leader_check
unfolding proposal_check
returns-in_err-leader_check c = search (rules, check-leader)

pub returns-in_err-tc_check-in-Ok : goal.returns-in_err-tc_check-in-Ok
unfolding proposal_check
returns-in_err-tc_check-in-Ok c = search (rules, check-tc)

pub returns-in_ok-tc_check-in-Ok : goal.returns-in_ok-tc_check-in-Ok
unfolding proposal_check
returns-in_ok-tc_check-in-Ok c = search (rules, check-passed)

pub returns-in-Err : goal.returns-in-Err
unfolding proposal_check
returns-in-Err c = search (rules, check-qc)
