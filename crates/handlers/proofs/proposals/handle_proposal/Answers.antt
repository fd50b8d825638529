-- `handlers::proposals::handle_proposal` meets its contract: its checks refuse, or its certificates are taken and the payload decides. Assumes nothing.
use borrow.Author.Rules.{rules}
use Rattle.handlers.proofs.ProposalLaws.{proposal-refused, proposal-taken}
use Rattle.handlers.proofs.proposals.handle_proposal.Goals as goal

pub returns-in-Ok : goal.returns-in-Ok
returns-in-Ok c = search (rules, proposal-taken)

pub returns-in-Err : goal.returns-in-Err
returns-in-Err c = search (rules, proposal-refused)
