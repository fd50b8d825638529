-- What the vote for a block and a TICK keep and sign, and what a TIMEOUT and a TC keep. Assumes nothing but memory of the right sizes, and a quorum at most 1
-- above the total.
--     Casts b q c a, Votes total b q s a     the vote for the block b: nothing, or one VOTE
--     votes-voting                           `voting`
--     timeout-keeps, tc-keeps                `handled_timeout`, `handled_tc`
--     lawful-tick                            `handled_tick`
use Prim.Native.Nat.{ℕ, suc, ◌+◌, ◌≤◌, ◌<◌}
use mathlib.Core.Bool.{Bool, true, false, cond}
use mathlib.Core.List.{List, [], ◌∷◌}
use mathlib.Core.Logic.{inl}
use mathlib.Core.Path.{◌≡◌, refl, sym, ◌∙◌, ap}
use native.Mathlib.Nat.{le_refl}
use native.Mathlib.Omega.{arith}
use borrow.Author.Tests.{eqb-true, eqb-false}
use lib.Dec.{ltb, eqb}
use lib.ListN.{length}
use Rattle.certificates.specs.declared.messages.QC.{QC}
use Rattle.certificates.specs.Config.{quorum_of, stake_of}
use Rattle.certificates.specs.Leader.{leader_of}
use Rattle.certificates.specs.Messages.{embedded_check, tc_check, author_check}
use Rattle.certificates.specs.Error.{round_too_high, qc_requires_quorum, tc_requires_quorum, number_of, author_number}
use Rattle.trace.specs.declared.events.Block.{Block}
use Rattle.trace.specs.declared.events.Timeout.{Timeout}
use Rattle.certificates.specs.Numbers.{round_max}
use Rattle.trace.specs.Layout.{timeout_qc, tc_body, qc_part, tc_part}
use Rattle.outputs.specs.Records.{vote, timeout, timer_reset}
use Rattle.aggregator.specs.Tallies.{votes_length, timeouts_length}
use Rattle.synchronizer.specs.declared.table.Slot.{Slot}
use Rattle.moves.specs.declared.state.Core.{Core}
use Rattle.moves.specs.State.{State, with_core, with_voted}
use Rattle.moves.specs.Outcome.{Step, Outcome, quiet, done, after, refused}
use Rattle.moves.specs.Moves.{taken_qc}
use Rattle.moves.specs.Tallied.{qc_of, timeout_tallied}
use Rattle.moves.proofs.MoveLaws.{Keeps, keeps-none, keeps_then, advanced-keeps, taken-keeps}
use Rattle.moves.proofs.TallyLaws.{timeout-tallied-keeps}
use Rattle.handlers.specs.Sound.{first, signers_of}
use Rattle.handlers.specs.Votes.{may_vote, own_vote, voted, voting}
use Rattle.handlers.specs.Timeouts.{timeout_check, timeout_taken, timeout_with, handled_timeout, tc_taken, stale_if, tc_with, handled_tc, voted_up, ticked, own_timeout, handled_tick}
use Rattle.handlers.proofs.VoteTheorems.{may-newer, may-extends, voting-is-past, voting-is-not, voting-is, voted-is, voted-keeps}
use Rattle.replica.specs.Blocks.{slot_for}
use Rattle.runs.specs.Runs.{only, is_signed, is_commit, signed_in, delivered_in}
use Rattle.runs.proofs.Lists.{only-head, only-skip}
use Rattle.runs.proofs.Marks.{later}
use Rattle.runs.proofs.Plain.{round_in, high_in, Plain, plain_quiet, plain-own-vote, plain-own-timeout}
use Rattle.runs.proofs.Lawful.{voted_in, committed_in, Stays, Ballot, expiry, Lawful, stays-keeps, stays_then, stays-core, delivers-none, lawful-plain}

-- ---- the vote for a block

-- nothing, or a VOTE for it
pub data Casts (b : Block) (q : ℕ) (c : Core) (a : Step) : Type 0 where
  skips : signed_in a.outs ≡ [] → voted_in a.state.core ≡ voted_in c → Casts b q c a
  casts : Ballot b q c a → Casts b q c a

pub record Votes (total : ℕ) (b : Block) (q : ℕ) (s : State) (a : Step) : Type 0 where
  pub stays : Stays total s a.state
  pub casts : Casts b q s.core a
  pub delivers : delivered_in a.outs ≡ []
  pub committed : committed_in a.state.core ≡ committed_in s.core
  pub below : high_in s.core < round_in s.core → high_in a.state.core < round_in a.state.core
  pub within : voted_in s.core ≤ round_in s.core → voted_in a.state.core ≤ round_in a.state.core

votes-quiet : (total : ℕ) (b : Block) (q : ℕ) (s : State) → Votes total b q s (quiet s)
unfolding only
votes-quiet total b q s =
    record {
      stays = stays-keeps (keeps-none total s);
      casts = skips refl refl;
      delivers = refl;
      committed = refl;
      below = λ h. h;
      within = λ h. h;
    }

-- the VOTE, and what follows it
votes-for : (total : ℕ) (b : Block) (q : ℕ) (s : State) (to : ℕ) (x : Step) → q ≤ high_in s.core → b.round.0 ≡ round_in s.core → may_vote s.core b ≡ true
    → Keeps total (with_core s (with_voted s.core b.round.0)) x.state → Plain (with_voted s.core b.round.0) x
    → Votes total b q s (record { state = x.state; outs = vote to b.digest b.round.0 ∷ x.outs })
votes-for total b q s to x u e v k p =
    record {
      stays = stays_then (stays-core total s (with_voted s.core b.round.0) refl refl) (stays-keeps k);
      casts =
          casts
          (record {
            to = to;
            is = only-head is_signed (vote to b.digest b.round.0) x.outs refl ∙ rw p.silent.signs;
            newer = may-newer b s.core v;
            rule = may-extends b s.core v;
            now = ap (λ r. r.0) k.voted;
            at = s.core;
            current = sym e;
            passed = le_refl _;
            before = le_refl _;
            after = k.high;
            below = λ h. h;
            took = u;
          });
      delivers = only-skip is_commit (vote to b.digest b.round.0) x.outs refl ∙ p.silent.delivers;
      committed = ap (λ r. r.0) k.committed;
      below = p.below;
      within = λ h. let same : voted_in x.state.core ≡ b.round.0 = ap (λ r. r.0) k.voted in omega (arith, k.round);
    }

module _ (total : ℕ) (m : List ℕ) (own : ℕ) (low : quorum_of m ≤ suc total) (b : Block) (q : ℕ) (s : State) (u : q ≤ high_in s.core) (long : length s.votes ≡ votes_length) (wide : length s.timeouts ≡ timeouts_length) where
  abbrev risen : State
  risen = with_core s (with_voted s.core b.round.0)

  votes-voted : b.round.0 ≡ round_in s.core → may_vote s.core b ≡ true → Votes total b q s (voted m own b s).left
  votes-voted e v =
      let k = voted-keeps total m own low s long wide b in
      rw (voted-is m own b s)
      (votes-for total b q s (leader_of m (b.round.0 + 1)) (cond (eqb (leader_of m (b.round.0 + 1)) own) (own_vote m own b risen) (done 0 (quiet risen))).left u e v
      (rw (voted-is m own b s) at k) (cases (eqb (leader_of m (b.round.0 + 1)) own)))
    where
      cases : (t : Bool) → Plain risen.core (cond t (own_vote m own b risen) (done 0 (quiet risen))).left
      cases true = plain-own-vote m own risen b
      cases false = plain_quiet risen

  pub votes-voting : Votes total b q s (voting m own b s).left
  votes-voting = cases (eqb b.round.0 s.core.round.0) refl (may_vote s.core b) refl
    where
      cases : (t : Bool) → eqb b.round.0 s.core.round.0 ≡ t → (v : Bool) → may_vote s.core b ≡ v → Votes total b q s (voting m own b s).left
      cases true e true f = rw (voting-is m own b s (eqb-true _ _ e) f) (votes-voted (eqb-true _ _ e) f)
      cases true e false f = rw (voting-is-not m own b s (eqb-true _ _ e) f) (votes-quiet total b q s)
      cases false e v f = rw (voting-is-past m own b s (eqb-false _ _ e)) (votes-quiet total b q s)

-- ---- TICK

voted_up-voted : (c : Core) (r : ℕ) → voted_in (voted_up c r) ≡ later (voted_in c) r
unfolding voted_up later
voted_up-voted c r = cases (ltb c.last_voted_round.0 r)
  where
    cases : (t : Bool) → voted_in (cond t (with_voted c r) c) ≡ cond t r (voted_in c)
    cases true = refl
    cases false = refl

pub record Raised (c c' : Core) : Type 0 where
  pub round : c'.round ≡ c.round
  pub high : c'.high_qc ≡ c.high_qc
  pub committed : c'.last_committed_round ≡ c.last_committed_round

voted_up-rest : (c : Core) (r : ℕ) → Raised c (voted_up c r)
unfolding voted_up
voted_up-rest c r = cases (ltb c.last_voted_round.0 r)
  where
    cases : (t : Bool) → Raised c (cond t (with_voted c r) c)
    cases true = record { round = refl; high = refl; committed = refl }
    cases false = record { round = refl; high = refl; committed = refl }

later-most : (a t : ℕ) → a ≤ t → later a t ≤ t
unfolding later
later-most a t h = cases (ltb a t) refl
  where
    cases : (b : Bool) → ltb a t ≡ b → cond b t a ≤ t
    cases true e = le_refl t
    cases false e = h

keeps-checked : (total : ℕ) (s : State) (t : Bool) (n : ℕ) (o : Outcome) → Keeps total s o.left.state → Keeps total s (cond t o (refused n s)).left.state
keeps-checked total s true n o k = k
keeps-checked total s false n o k = keeps-none total s

module _ (total : ℕ) (m : List ℕ) (own : ℕ) (low : quorum_of m ≤ suc total) (s : State) (long : length s.votes ≡ votes_length) (wide : length s.timeouts ≡ timeouts_length) where
  own-timeout-keeps : Keeps total s (own_timeout m own s).left.state
  unfolding own_timeout
  own-timeout-keeps =
      let n = author_number (author_check m own 1) in
      keeps-checked total s (eqb n 0) n (timeout_tallied m own (quorum_of m) s s.core.round.0 own (stake_of m own) s.core.high_qc.round.0)
      (timeout-tallied-keeps total m own (quorum_of m) low s long wide s.core.round.0 own (stake_of m own) s.core.high_qc.round.0)

  pub timeout-keeps : (t : Timeout) (r : List ℕ) → Keeps total s (handled_timeout m own s t r).left.state
  unfolding handled_timeout timeout_with timeout_taken
  timeout-keeps t r =
      let qc = embedded_check m (quorum_of m) (qc_part r timeout_qc) in
      let n = first (timeout_check m s.core.round.0 t) (number_of qc qc_requires_quorum) in
      let q = qc_of t.qc_hash t.qc_round.0 (signers_of qc) in
      let p = t.author.0 in
      let k = taken-keeps total s long wide q in
      keeps-checked total s (eqb n 0) n (timeout_taken m own s t (signers_of qc))
      (keeps_then k
      (timeout-tallied-keeps total m own (quorum_of m) low (taken_qc s q).state (k.votes ∙ long) (k.timeouts ∙ wide) t.round.0 p (stake_of m p) t.qc_round.0))

  pub tc-keeps : (round : ℕ) (r : List ℕ) → Keeps total s (handled_tc m own s round r).left.state
  unfolding handled_tc tc_with tc_taken
  tc-keeps round r =
      let part = tc_part r tc_body in
      let tc = tc_check m (quorum_of m) part in
      let n = first (number_of tc tc_requires_quorum) (stale_if round s.core.round.0) in
      keeps-checked total s (eqb n 0) n (done 0 (tc_taken m own s round (signers_of tc) part)) (advanced-keeps total s long wide round)

-- the TIMEOUT, and what follows it
lawful-ticked : (total : ℕ) (b : Block) (q : ℕ) (t : List Slot) (s : State) (x : Step) → Keeps total (ticked s).state x.state → Plain (ticked s).state.core x
    → Lawful total b q t t s (record { state = x.state; outs = timer_reset ∷ timeout (round_in s.core) s.core.high_qc ∷ x.outs })
lawful-ticked total b q t s x k p =
    let c = s.core in
    let u = voted_up c (round_in c) in
    let rest = voted_up-rest c (round_in c) in
    let rec = timeout (round_in c) c.high_qc in
    let same : voted_in x.state.core ≡ later (voted_in c) (round_in c) = ap (λ r. r.0) k.voted ∙ voted_up-voted c (round_in c) in
    let round : round_in u ≡ round_in c = ap (λ r. r.0) rest.round in
    let high : high_in u ≡ high_in c = ap (λ (q : QC). q.round.0) rest.high in
    record {
      stays = stays_then (stays-core total s u rest.round rest.high) (stays-keeps k);
      signs =
          expiry (only-skip is_signed timer_reset (rec ∷ x.outs) refl ∙ only-head is_signed rec x.outs refl ∙ rw p.silent.signs) same;
      delivers =
          delivers-none (slot_for b) t t _ _ (only-skip is_commit timer_reset (rec ∷ x.outs) refl ∙ only-skip is_commit rec x.outs refl ∙ p.silent.delivers)
          (ap (λ r. r.0) k.committed ∙ ap (λ r. r.0) rest.committed);
      stores = inl refl;
      below = λ h. p.below (omega arith);
      within = λ h. omega (arith, k.round, later-most (voted_in c) (round_in c) h);
    }

pub lawful-tick : (total : ℕ) (m : List ℕ) (own : ℕ) → quorum_of m ≤ suc total → (b : Block) (q : ℕ) (t : List Slot) (s : State) → length s.votes ≡ votes_length
    → length s.timeouts ≡ timeouts_length → Lawful total b q t t s (handled_tick m own s).left
unfolding handled_tick
lawful-tick total m own low b q t s long wide = cases (ltb round_max s.core.round.0)
  where
    cases : (u : Bool) → Lawful total b q t t s (cond u (refused round_too_high s) (after (ticked s) (own_timeout m own))).left
    cases true = lawful-plain b q t (keeps-none total s) (plain_quiet s)
    cases false =
        lawful-ticked total b q t s (own_timeout m own (ticked s).state).left (own-timeout-keeps total m own low (ticked s).state long wide) (plain-own-timeout m own (ticked s).state)
