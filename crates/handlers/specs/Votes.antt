-- 01, Events: VOTE, and the vote for a block. m is the committee, own the own place, s the state.
--     vote_check m current v, handled_vote m own s v  VOTE
--     extends_tc b tc, extends b, may_vote c b        the voting rules
--     own_vote, voted, voting m own b s               the vote for the block b
--     voting_most                                     the most bytes that the vote for a block writes
use Rattle.std.specs.Prelude.{ℕ, ◌+◌, Bool, true, false, cond, List, ltb, leb, eqb, Option, None, Some}
use Rattle.certificates.specs.Config.{stake_of, quorum_of}
use Rattle.certificates.specs.Leader.{leader_of}
use Rattle.certificates.specs.Messages.{author_check}
use Rattle.certificates.specs.Error.{stale, author_number}
use Rattle.trace.specs.declared.events.Vote.{Vote}
use Rattle.trace.specs.declared.events.Block.{Block}
use Rattle.trace.specs.declared.events.BlockTc.{BlockTc}
use Rattle.outputs.specs.Records.{vote, vote_size}
use Rattle.moves.specs.declared.state.Core.{Core}
use Rattle.moves.specs.State.{State, with_core, with_voted}
use Rattle.moves.specs.Outcome.{Outcome, quiet, wrote, done, after, checked}
use Rattle.moves.specs.Moves.{certify_most}
use Rattle.moves.specs.Tallied.{vote_tallied}

-- ---- VOTE

-- "VOTE: below the current round, STALE. Unknown or stake 0; verdict"
unfoldable pub vote_check : List ℕ → ℕ → Vote → ℕ
vote_check m current v = cond (ltb v.round.0 current) stale (author_number (author_check m v.author.0 v.verdict))

-- ".. tally by (round, hash) .."
unfoldable pub handled_vote : List ℕ → ℕ → State → Vote → Outcome
handled_vote m own s v =
    checked (vote_check m s.core.round.0 v) s
    (vote_tallied m own (quorum_of m) s v.hash v.round.0 v.author.0 (stake_of m v.author.0))

-- ---- the voting rules

-- "its TC has tc.round+1 = round and qc.round at least its largest high round"
abbrev pub extends_tc : Block → Option BlockTc → Bool
extends_tc b None = false
extends_tc b (Some t) = cond (eqb (t.round.0 + 1) b.round.0) (leb t.high.0 b.qc_round.0) false

-- Jolteon's voting rule for a block of round r, in its terms: r is the current round, r > r_vote, and (1) r = qc.r + 1, or (2) r = tc.r + 1
-- and qc.r ≥ max { qc_high.r | qc_high ∈ tc }. The part behind "and": "qc.round+1 = round, or its TC has tc.round+1 = round and qc.round at
-- least its largest high round"
unfoldable pub extends : Block → Bool
extends b = cond (eqb (b.qc_round.0 + 1) b.round.0) true (extends_tc b b.tc)

-- with r > r_vote: "Vote if round > last voted and (..)"
unfoldable pub may_vote : Core → Block → Bool
may_vote c b = cond (ltb c.last_voted_round.0 b.round.0) (extends b) false

-- ---- the vote for a block

-- "it also goes through VOTE's steps at once, verdict yes"
unfoldable pub own_vote : List ℕ → ℕ → Block → State → Outcome
own_vote m own b s =
    checked (author_number (author_check m own 1)) s
    (vote_tallied m own (quorum_of m) s b.digest b.round.0 own (stake_of m own))

-- "last voted becomes round, and VOTE is written with the next round's leader. If that is own place, it also goes through VOTE's steps"
unfoldable pub voted : List ℕ → ℕ → Block → State → Outcome
voted m own b s =
    after (wrote (with_core s (with_voted s.core b.round.0)) (vote (leader_of m (b.round.0 + 1)) b.digest b.round.0))
    (λ (t : State). cond (eqb (leader_of m (b.round.0 + 1)) own) (own_vote m own b t) (done 0 (quiet t)))

-- with r the current round: "If the block's round is not current, done. Vote if .."
unfoldable pub voting : List ℕ → ℕ → Block → State → Outcome
voting m own b s =
    cond (eqb b.round.0 s.core.round.0) (cond (may_vote s.core b) (voted m own b s) (done 0 (quiet s))) (done 0 (quiet s))

abbrev pub voting_most : ℕ
voting_most = vote_size + certify_most
