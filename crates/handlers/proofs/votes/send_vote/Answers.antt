-- `handlers::votes::send_vote` meets its contract: VOTE is written; the own vote is then counted, and no other.
-- Assumes nothing.
use borrow.Author.Rules.{rules}
use Rattle.handlers.proofs.VoteLaws.{sent-counted, sent}
use Rattle.handlers.proofs.votes.send_vote.Goals as goal

pub returns-then-next_leader-own : goal.returns-then-next_leader-own
returns-then-next_leader-own c =
    sent-counted _ _ c.args.core _ _ c.args.b c.get_leader-next_leader.ensures c.put_vote-end.ensures c.if-next_leader-own.true c.own_vote.ensures

pub returns : goal.returns
returns c = search (rules, sent)
