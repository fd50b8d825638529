-- What the definitions of VOTE and of the vote for a block say, as theorems. No contract cites this file. Assumes nothing.
--     may-newer, may-extends, extends-rule           a block that may be voted for keeps Jolteon's two rules
--     voting-is-past, voting-is-not, voting-is       `voting` by its tests
--     voted-is                                       a vote: VOTE is written, and then it may be counted
--     vote-keeps, own-vote-keeps, voted-keeps        what they leave as it was
--     Votes, voting-votes                            the numbers that the vote for a block may be answered with
--     vote-early                                     a VOTE that is not answered 0 leaves the state, and writes nothing
use Prim.Native.Nat.{ℕ, suc, ◌+◌, ◌≤◌, ◌<◌}
use mathlib.Core.Bool.{Bool, true, false, cond}
use mathlib.Core.List.{List, [], ◌∷◌}
use mathlib.Core.Logic.{◌⊎◌, inl, inr}
use mathlib.Core.Path.{◌≡◌, refl}
use native.Mathlib.Omega.{arith}
use borrow.Author.Tests.{eq-eqb, ne_eqb, eqb-true, ltb-true, leb-true}
use lib.Dec.{ltb, leb, eqb}
use lib.ListN.{length}
use Rattle.aggregator.specs.Tally.{Added}
use Rattle.aggregator.specs.declared.tallies.AddError.TheVariants.{NoRoom, Used}
use Rattle.std.specs.Prelude.{Ok, Err, Option, None, Some}
use Rattle.certificates.specs.declared.numbers.Hash.{Hash}
use Rattle.certificates.specs.Config.{stake_of, quorum_of}
use Rattle.certificates.specs.Leader.{leader_of}
use Rattle.certificates.specs.Messages.{author_check}
use Rattle.certificates.specs.declared.error.AuthorError.TheVariants as author
use Rattle.certificates.specs.Signers.{member}
use Rattle.certificates.specs.Error.{author_number, unknown_authority, authority_reuse, tallies_full}
use Rattle.trace.specs.declared.events.Vote.{Vote}
use Rattle.trace.specs.declared.events.Block.{Block}
use Rattle.trace.specs.declared.events.BlockTc.{BlockTc}
use Rattle.outputs.specs.Records.{vote}
use Rattle.aggregator.specs.Tallies.{votes_length, timeouts_length, vote_added, votes_after}
use Rattle.moves.specs.declared.state.Core.{Core}
use Rattle.moves.specs.State.{State, with_core, with_voted}
use Rattle.moves.specs.Outcome.{Outcome, quiet, wrote, done, after, refused}
use Rattle.moves.specs.Tallied.{after_vote, vote_tallied}
use Rattle.moves.proofs.MoveLaws.{Keeps, keeps-none}
use Rattle.moves.proofs.TallyLaws.{vote-tallied-is, vote-tallied-keeps}
use Rattle.handlers.specs.Votes.{vote_check, handled_vote, extends_tc, extends, may_vote, own_vote, voted, voting}

-- ---- the voting rules

-- the TC's part of rule 2: "its TC has tc.round+1 = round and qc.round at least its largest high round"
pub record ExtendsTC (b : Block) : Type 0 where
  pub tc : BlockTc
  pub some : b.tc ≡ Some tc
  pub next : tc.round.0 + 1 ≡ b.round.0
  pub high : tc.high.0 ≤ b.qc_round.0

module _ (b : Block) where
  from-both : (x y : Bool) → cond x y false ≡ true → (x ≡ true) × (y ≡ true)
  from-both true y e = (refl, e)
  from-both false y e = absurd (let h : ◌≡◌ {A = ℕ} 0 1 = cc in omega arith)

  from-extends : (x : Bool) (o : Option BlockTc) → b.tc ≡ o → cond x true (extends_tc b o) ≡ true → (x ≡ true) ⊎ ExtendsTC b
  from-extends true o f e = inl refl
  from-extends false None f e = absurd (let h : ◌≡◌ {A = ℕ} 0 1 = cc in omega arith)
  from-extends false (Some t) f e =
      let h = from-both (eqb (t.round.0 + 1) b.round.0) (leb t.high.0 b.qc_round.0) e in
      inr (record { tc = t; some = f; next = eqb-true _ _ h.0; high = leb-true _ _ h.1 })

  -- rule 2
  pub extends-rule : extends b ≡ true → (b.qc_round.0 + 1 ≡ b.round.0) ⊎ ExtendsTC b
  unfolding extends
  extends-rule e = cases (from-extends (eqb (b.qc_round.0 + 1) b.round.0) b.tc refl e)
    where
      cases : (eqb (b.qc_round.0 + 1) b.round.0 ≡ true) ⊎ ExtendsTC b → (b.qc_round.0 + 1 ≡ b.round.0) ⊎ ExtendsTC b
      cases (inl h) = inl (eqb-true _ _ h)
      cases (inr k) = inr k

  module _ (c : Core) where
    -- rule 1
    pub may-newer : may_vote c b ≡ true → c.last_voted_round.0 < b.round.0
    unfolding may_vote
    may-newer e = ltb-true _ _ (from-both (ltb c.last_voted_round.0 b.round.0) (extends b) e).0

    pub may-extends : may_vote c b ≡ true → extends b ≡ true
    unfolding may_vote
    may-extends e = (from-both (ltb c.last_voted_round.0 b.round.0) (extends b) e).1

-- ---- the vote for a block

module _ (m : List ℕ) (own : ℕ) (b : Block) (s : State) where
  pub voting-is-past : (b.round.0 ≡ s.core.round.0 → ⊥) → voting m own b s ≡ done 0 (quiet s)
  unfolding voting
  voting-is-past h = rw (ne_eqb _ _ h)

  pub voting-is-not : b.round.0 ≡ s.core.round.0 → may_vote s.core b ≡ false → voting m own b s ≡ done 0 (quiet s)
  unfolding voting
  voting-is-not h e = rw (eq-eqb _ _ h, e)

  pub voting-is : b.round.0 ≡ s.core.round.0 → may_vote s.core b ≡ true → voting m own b s ≡ voted m own b s
  unfolding voting
  voting-is h e = rw (eq-eqb _ _ h, e)

  -- the vote is written with last voted raised; then it is counted where the own place leads the next round
  pub voted-is : voted m own b s
      ≡ after (wrote (with_core s (with_voted s.core b.round.0)) (vote (leader_of m (b.round.0 + 1)) b.digest b.round.0))
      (λ (t : State). cond (eqb (leader_of m (b.round.0 + 1)) own) (own_vote m own b t) (done 0 (quiet t)))
  unfolding voted
  voted-is = refl

-- ---- what is left as it was

checked-keeps : (total : ℕ) (s : State) (b : Bool) (n : ℕ) (o : Outcome) → Keeps total s o.left.state → Keeps total s (cond b o (refused n s)).left.state
checked-keeps total s true n o k = k
checked-keeps total s false n o k = keeps-none total s

module _ (total : ℕ) (m : List ℕ) (own : ℕ) (low : quorum_of m ≤ suc total) where
  module _ (s : State) (long : length s.votes ≡ votes_length) (wide : length s.timeouts ≡ timeouts_length) where
    pub vote-keeps : (v : Vote) → Keeps total s (handled_vote m own s v).left.state
    unfolding handled_vote
    vote-keeps v =
        let n = vote_check m s.core.round.0 v in
        let p = v.author.0 in
        checked-keeps total s (eqb n 0) n (vote_tallied m own (quorum_of m) s v.hash v.round.0 p (stake_of m p))
        (vote-tallied-keeps total m own (quorum_of m) low s long wide v.hash v.round.0 p (stake_of m p))

    pub own-vote-keeps : (b : Block) → Keeps total s (own_vote m own b s).left.state
    unfolding own_vote
    own-vote-keeps b =
        let n = author_number (author_check m own 1) in
        checked-keeps total s (eqb n 0) n (vote_tallied m own (quorum_of m) s b.digest b.round.0 own (stake_of m own))
        (vote-tallied-keeps total m own (quorum_of m) low s long wide b.digest b.round.0 own (stake_of m own))

  -- a vote raises last voted to the block's round, and keeps the rest
  pub voted-keeps : (s : State) → length s.votes ≡ votes_length → length s.timeouts ≡ timeouts_length → (b : Block)
      → Keeps total (with_core s (with_voted s.core b.round.0)) (voted m own b s).left.state
  voted-keeps s long wide b = rw (voted-is m own b s) (cases (eqb (leader_of m (b.round.0 + 1)) own))
    where
      cases : (t : Bool) → Keeps total (with_core s (with_voted s.core b.round.0))
          (cond t (own_vote m own b (with_core s (with_voted s.core b.round.0))) (done 0 (quiet (with_core s (with_voted s.core b.round.0))))).left.state
      cases true = own-vote-keeps (with_core s (with_voted s.core b.round.0)) long wide b
      cases false = keeps-none total (with_core s (with_voted s.core b.round.0))

-- ---- early refusals

from-added : (m : List ℕ) (own : ℕ) (s : State) (hash : Hash) (round : ℕ) (votes : List ℕ) (a : Added) → ((after_vote m own s hash round votes a).answer ≡ 0 → ⊥)
    → (after_vote m own s hash round votes a).left ≡ quiet s
from-added m own s hash round votes (Err NoRoom) h = refl
from-added m own s hash round votes (Err Used) h = refl
from-added m own s hash round votes (Ok None) h = absurd (h refl)
from-added m own s hash round votes (Ok (Some q)) h = absurd (h refl)

from-checked : (b : Bool) (n : ℕ) (s : State) (o : Outcome) → ((o.answer ≡ 0 → ⊥) → o.left ≡ quiet s) → ((cond b o (refused n s)).answer ≡ 0 → ⊥)
    → (cond b o (refused n s)).left ≡ quiet s
from-checked true n s o k h = k h
from-checked false n s o k h = refl

-- a VOTE that is not answered 0 leaves the state, and writes nothing
pub vote-early : (m : List ℕ) (own : ℕ) (s : State) (v : Vote) → ((handled_vote m own s v).answer ≡ 0 → ⊥) → (handled_vote m own s v).left ≡ quiet s
unfolding handled_vote
vote-early m own s v =
    let n = vote_check m s.core.round.0 v in
    let p = v.author.0 in
    let stake = stake_of m p in
    let need = quorum_of m in
    from-checked (eqb n 0) n s (vote_tallied m own need s v.hash v.round.0 p stake)
    (rw (vote-tallied-is m own need s v.hash v.round.0 p stake)
    (from-added m own s v.hash v.round.0 (votes_after s.votes v.round.0 v.hash p stake need) (vote_added s.votes v.round.0 v.hash p stake need)))

-- ---- what a vote for a block may answer

abbrev pub Votes : ℕ → Type 0
Votes n = member n (0 ∷ unknown_authority ∷ authority_reuse ∷ tallies_full ∷ []) ≡ true

votes-checked : (u : Bool) (n : ℕ) (s : State) (o : Outcome) → Votes n → Votes o.answer → Votes (cond u o (refused n s)).answer
votes-checked true n s o k h = h
votes-checked false n s o k h = k

module _ (m : List ℕ) (own : ℕ) where
  pub tallied-votes : (need : ℕ) (s : State) (hash : Hash) (round p stake : ℕ) → Votes (vote_tallied m own need s hash round p stake).answer
  unfolding member
  tallied-votes need s hash round p stake =
      rw (vote-tallied-is m own need s hash round p stake) (cases (votes_after s.votes round hash p stake need) (vote_added s.votes round hash p stake need))
    where
      cases : (v : List ℕ) (a : Added) → Votes (after_vote m own s hash round v a).answer
      cases v (Err NoRoom) = refl
      cases v (Err Used) = refl
      cases v (Ok None) = refl
      cases v (Ok (Some q)) = refl

  pub author-votes : Votes (author_number (author_check m own 1))
  unfolding member author_check
  author-votes = cases (eqb (stake_of m own) 0)
    where
      cases : (u : Bool) → Votes (author_number (cond u (Err (author.UnknownAuthority record { 0 = own })) (Ok record { 0 = stake_of m own })))
      cases true = refl
      cases false = refl

  own-votes : (b : Block) (s : State) → Votes (own_vote m own b s).answer
  unfolding own_vote
  own-votes b s =
      let n = author_number (author_check m own 1) in
      votes-checked (eqb n 0) n s (vote_tallied m own (quorum_of m) s b.digest b.round.0 own (stake_of m own)) author-votes
      (tallied-votes (quorum_of m) s b.digest b.round.0 own (stake_of m own))

  voted-votes : (b : Block) (s : State) → Votes (voted m own b s).answer
  unfolding voted member
  voted-votes b s = cases (eqb (leader_of m (b.round.0 + 1)) own)
    where
      cases : (u : Bool) → let t = with_core s (with_voted s.core b.round.0) in Votes (cond u (own_vote m own b t) (done 0 (quiet t))).answer
      cases true = own-votes b (with_core s (with_voted s.core b.round.0))
      cases false = refl

  pub voting-votes : (b : Block) (s : State) → Votes (voting m own b s).answer
  unfolding voting member
  voting-votes b s = cases (eqb b.round.0 s.core.round.0) (may_vote s.core b)
    where
      cases : (u v : Bool) → Votes (cond u (cond v (voted m own b s) (done 0 (quiet s))) (done 0 (quiet s))).answer
      cases true true = voted-votes b s
      cases true false = refl
      cases false v = refl
