-- `replica::stages::handle` meets its contract: a law for each kind of record.
-- Assumes nothing.
use Rattle.replica.proofs.StageCode.{propose-limit, vote-needs, timeout-needs, tc-needs, handle-start, handle-propose, handle-vote, handle-timeout, handle-tc, handle-loopback, handle-tick}
use borrow.Author.Rules.{rules}
use Rattle.replica.proofs.stages.handle.Goals as goal

pub propose-requires : goal.propose-requires
propose-requires c =
    propose-limit _ _ c.requires.0 c.requires.2 c.requires.1 c.in-Propose.is

pub handle_vote-requires : goal.handle_vote-requires
handle_vote-requires c =
    vote-needs _ _ c.requires.0 c.requires.2 c.requires.1 c.in-Vote.is c.vote_of-v.ensures

pub handle_timeout-requires : goal.handle_timeout-requires
handle_timeout-requires c =
    timeout-needs _ _ c.requires.0 c.requires.2 c.requires.1 c.in-Timeout.is c.timeout_of-t.ensures

pub handle_tc-requires : goal.handle_tc-requires
handle_tc-requires c =
    tc-needs _ _ c.requires.0 c.requires.2 c.requires.1 c.in-Tc.is c.u64_at.ensures

pub returns-in-Start : goal.returns-in-Start
returns-in-Start c = search (rules, handle-start)

pub returns-in-Propose : goal.returns-in-Propose
returns-in-Propose c = search (rules, handle-propose)

pub returns-in-Vote : goal.returns-in-Vote
returns-in-Vote c = search (rules, handle-vote)

pub returns-in-Timeout : goal.returns-in-Timeout
returns-in-Timeout c = search (rules, handle-timeout)

pub returns-in-Tc : goal.returns-in-Tc
returns-in-Tc c = search (rules, handle-tc)

pub returns-in-Loopback : goal.returns-in-Loopback
returns-in-Loopback c = search (rules, handle-loopback)

pub returns-in-Tick : goal.returns-in-Tick
returns-in-Tick c = search (rules, handle-tick)
