-- What a replica does without a vote, a timeout of its own or a commit: nothing is signed, nothing is delivered, and the high QC stays below the round.
-- Assumes nothing.
--     Plain c a                       the step a from the part by value c is so
--     plain_quiet, plain-outs, plain_then, plain-checked      nothing; records alone; two in a row; after a check
--     raised_below, advanced-above, taken-below               the high QC and the round
--     plain-advanced .. plain-timeout-tallied                 the moves
--     plain-vote, plain-own-vote, plain-timeout, plain-own-timeout, plain-tc, plain-proposal     the handlers
--     plain-announced                                         START
use Prim.Native.Nat.{ℕ, ◌<◌}
use mathlib.Core.Bool.{Bool, true, false, cond}
use mathlib.Core.List.{List, [], ◌∷◌, ◌++◌}
use mathlib.Core.Path.{◌≡◌, refl}
use native.Mathlib.Omega.{arith}
use borrow.Author.Tests.{ltb-true, ltb-false}
use lib.Dec.{ltb, eqb}
use Rattle.std.specs.Prelude.{Option, None, Some, Ok, Err}
use Rattle.aggregator.specs.Tally.{Added}
use Rattle.aggregator.specs.declared.tallies.AddError.TheVariants.{NoRoom, Used}
use Rattle.certificates.specs.declared.numbers.Hash.{Hash}
use Rattle.certificates.specs.declared.numbers.Signers.{Signers}
use Rattle.certificates.specs.declared.messages.QC.{QC}
use Rattle.certificates.specs.Config.{stake_of, quorum_of}
use Rattle.certificates.specs.Messages.{embedded_check, tc_check, author_check}
use Rattle.certificates.specs.Error.{qc_requires_quorum, tc_requires_quorum, number_of, author_number}
use Rattle.trace.specs.declared.events.Vote.{Vote}
use Rattle.trace.specs.declared.events.Timeout.{Timeout}
use Rattle.trace.specs.declared.events.Block.{Block}
use Rattle.trace.specs.declared.events.BlockTc.{BlockTc}
use Rattle.trace.specs.Layout.{timeout_qc, tc_body, qc_part, tc_part, highs_of}
use Rattle.outputs.specs.Records.{Rec, timer_reset, tc, make, make_with}
use Rattle.aggregator.specs.Tallies.{highs_at, vote_added, votes_after, timeout_added, timeouts_after}
use Rattle.moves.specs.declared.state.Core.{Core}
use Rattle.moves.specs.State.{State, with_votes, with_timeouts}
use Rattle.moves.specs.Outcome.{Step, Outcome, quiet, and_then, done, refused}
use Rattle.moves.specs.Moves.{advanced, raised, taken_qc, make_of, make_with_of, leads, certified, tc_outs, timed_out}
use Rattle.moves.specs.Tallied.{qc_of, after_vote, vote_tallied, after_timeout, timeout_tallied}
use Rattle.moves.proofs.MoveLaws.{advanced-below, advanced-at, taken_is, certified-is, timed-out-is, tc-outs-is}
use Rattle.moves.proofs.TallyLaws.{vote-tallied-is, timeout-tallied-is}
use Rattle.handlers.specs.Sound.{first, signers_of}
use Rattle.handlers.specs.Votes.{vote_check, handled_vote, own_vote}
use Rattle.handlers.specs.Timeouts.{timeout_check, timeout_taken, timeout_with, handled_timeout, tc_taken, stale_if, tc_with, handled_tc, own_timeout}
use Rattle.handlers.specs.Proposals.{qc_found, proposal_check, advanced_by, advanced_tc, taken, by_payload, proposal_with, proposal_of}
use Rattle.replica.specs.Step.{announced}
use Rattle.runs.specs.Runs.{only, signed_in, delivered_in}
use Rattle.runs.proofs.Lists.{only-append}

abbrev pub round_in : Core → ℕ
round_in c = c.round.0

abbrev pub high_in : Core → ℕ
high_in c = c.high_qc.round.0

pub record Silent (outs : List Rec) : Type 0 where
  pub signs : signed_in outs ≡ []
  pub delivers : delivered_in outs ≡ []

pub record Plain (c : Core) (a : Step) : Type 0 where
  pub silent : Silent a.outs
  pub below : high_in c < round_in c → high_in a.state.core < round_in a.state.core

-- ---- steps

pub silent-none : Silent []
unfolding only
silent-none = record { signs = refl; delivers = refl }

pub silent-append : (xs ys : List Rec) → Silent xs → Silent ys → Silent (xs ++ ys)
silent-append xs ys h k =
    record {
      signs = rw (only-append, h.signs) k.signs;
      delivers = rw (only-append, h.delivers) k.delivers;
    }

pub plain_quiet : (s : State) → Plain s.core (quiet s)
plain_quiet s = record { silent = silent-none; below = λ h. h }

pub plain-outs : (s : State) (outs : List Rec) → Silent outs → Plain s.core (record { state = s; outs = outs })
plain-outs s outs h = record { silent = h; below = λ k. k }

pub plain_then : {c : Core} (a : Step) (f : State → Step) → Plain c a → Plain a.state.core (f a.state) → Plain c (and_then a f)
plain_then a f h k = record { silent = silent-append a.outs (f a.state).outs h.silent k.silent; below = λ b. k.below (h.below b) }

pub plain-checked : (t : Bool) (n : ℕ) (s : State) (o : Outcome) → Plain s.core o.left → Plain s.core (cond t o (refused n s)).left
plain-checked true n s o h = h
plain-checked false n s o h = plain_quiet s

-- ---- records that sign and deliver nothing

silent-made : (m : List ℕ) (own : ℕ) (c : Core) → Silent (make_of m own c)
unfolding make_of only
silent-made m own c = cases (leads m own c)
  where
    cases : (t : Bool) → Silent (cond t (make c.round.0 c.high_qc ∷ []) [])
    cases true = record { signs = refl; delivers = refl }
    cases false = record { signs = refl; delivers = refl }

silent-made-with : (m : List ℕ) (own : ℕ) (c : Core) (of names : ℕ) (highs : List ℕ) → Silent (make_with_of m own c of names highs)
unfolding make_with_of only
silent-made-with m own c of names highs = cases (leads m own c)
  where
    cases : (t : Bool) → Silent (cond t (make_with c.round.0 c.high_qc of names highs ∷ []) [])
    cases true = record { signs = refl; delivers = refl }
    cases false = record { signs = refl; delivers = refl }

silent-tc : (round names : ℕ) (highs : List ℕ) → Silent (tc round names highs ∷ [])
unfolding only
silent-tc round names highs = record { signs = refl; delivers = refl }

pub silent-reset : Silent (timer_reset ∷ [])
unfolding only
silent-reset = record { signs = refl; delivers = refl }

silent-tc-outs : (m : List ℕ) (own : ℕ) (c : Core) (round names : ℕ) (highs : List ℕ) → Silent (tc_outs m own c round names highs)
silent-tc-outs m own c round names highs =
    rw (tc-outs-is m own c round names highs)
    (silent-append (tc round names highs ∷ []) (make_with_of m own c round names highs) (silent-tc round names highs) (silent-made-with m own c round names highs))

-- ---- the moves

-- a QC below the round leaves the high QC below the round
pub raised_below : (c : Core) (q : QC) → high_in c < round_in c → q.round.0 < round_in c → high_in (raised c q) < round_in (raised c q)
unfolding raised
raised_below c q h k = cases (ltb c.high_qc.round.0 q.round.0)
  where
    cases : (t : Bool) → let d = cond t (record { round = c.round; last_voted_round = c.last_voted_round; last_committed_round = c.last_committed_round; high_qc = q }) c in
        high_in d < round_in d
    cases true = k
    cases false = h

-- a round that was advanced is above
pub advanced-above : (s : State) (r : ℕ) → r < round_in (advanced s r).state.core
advanced-above s r = cases (ltb r s.core.round.0) refl
  where
    cases : (t : Bool) → ltb r s.core.round.0 ≡ t → r < round_in (advanced s r).state.core
    cases true e = rw (advanced-below s r (ltb-true _ _ e)) (ltb-true _ _ e)
    cases false e = rw (advanced-at s r (ltb-false _ _ e)) (omega arith)

pub plain-advanced : (s : State) (r : ℕ) → Plain s.core (advanced s r)
plain-advanced s r = cases (ltb r s.core.round.0) refl
  where
    cases : (t : Bool) → ltb r s.core.round.0 ≡ t → Plain s.core (advanced s r)
    cases true e = rw (advanced-below s r (ltb-true _ _ e)) (plain_quiet s)
    cases false e = rw (advanced-at s r (ltb-false _ _ e)) (record { silent = silent-reset; below = λ h. omega (arith, ltb-false r s.core.round.0 e) })

pub plain-taken : (s : State) (q : QC) → Plain s.core (taken_qc s q)
plain-taken s q =
    let a = advanced s q.round.0 in
    let p = plain-advanced s q.round.0 in
    rw (taken_is s q)
    (record {
      silent = silent-append a.outs [] p.silent silent-none;
      below = λ h. raised_below a.state.core q (p.below h) (advanced-above s q.round.0);
    })

pub plain-certified : (m : List ℕ) (own : ℕ) (s : State) (q : QC) → Plain s.core (certified m own s q)
plain-certified m own s q =
    rw (certified-is m own s q)
    (plain_then (taken_qc s q) (λ (t : State). record { state = t; outs = make_of m own t.core }) (plain-taken s q)
    (plain-outs (taken_qc s q).state (make_of m own (taken_qc s q).state.core) (silent-made m own (taken_qc s q).state.core)))

pub plain-timed-out : (m : List ℕ) (own : ℕ) (s : State) (round names : ℕ) (highs : List ℕ) → Plain s.core (timed_out m own s round names highs)
plain-timed-out m own s round names highs =
    let u = (advanced s round).state in
    rw (timed-out-is m own s round names highs)
    (plain_then (advanced s round) (λ (t : State). record { state = t; outs = tc_outs m own t.core round names highs }) (plain-advanced s round)
    (plain-outs u (tc_outs m own u.core round names highs) (silent-tc-outs m own u.core round names highs)))

pub plain-vote-tallied : (m : List ℕ) (own need : ℕ) (s : State) (hash : Hash) (round p stake : ℕ) → Plain s.core (vote_tallied m own need s hash round p stake).left
plain-vote-tallied m own need s hash round p stake =
    rw (vote-tallied-is m own need s hash round p stake) (cases (votes_after s.votes round hash p stake need) (vote_added s.votes round hash p stake need))
  where
    cases : (v : List ℕ) (a : Added) → Plain s.core (after_vote m own s hash round v a).left
    cases v (Err NoRoom) = plain_quiet s
    cases v (Err Used) = plain_quiet s
    cases v (Ok None) = plain_quiet (with_votes s v)
    cases v (Ok (Some q)) = plain-certified m own (with_votes s v) (qc_of hash round q.signers)

pub plain-timeout-tallied : (m : List ℕ) (own need : ℕ) (s : State) (round p stake high : ℕ) → Plain s.core (timeout_tallied m own need s round p stake high).left
plain-timeout-tallied m own need s round p stake high =
    rw (timeout-tallied-is m own need s round p stake high) (cases (timeouts_after s.timeouts round p stake need high) (timeout_added s.timeouts round p stake need))
  where
    cases : (t : List ℕ) (a : Added) → Plain s.core (after_timeout m own s round t a).left
    cases t (Err NoRoom) = plain_quiet s
    cases t (Err Used) = plain_quiet s
    cases t (Ok None) = plain_quiet (with_timeouts s t)
    cases t (Ok (Some q)) = plain-timed-out m own (with_timeouts s t) round q.signers.0 (highs_at t q.row)

-- ---- the handlers

module _ (m : List ℕ) (own : ℕ) (s : State) where
  pub plain-vote : (v : Vote) → Plain s.core (handled_vote m own s v).left
  unfolding handled_vote
  plain-vote v =
      let n = vote_check m s.core.round.0 v in
      let p = v.author.0 in
      plain-checked (eqb n 0) n s (vote_tallied m own (quorum_of m) s v.hash v.round.0 p (stake_of m p))
      (plain-vote-tallied m own (quorum_of m) s v.hash v.round.0 p (stake_of m p))

  pub plain-own-vote : (b : Block) → Plain s.core (own_vote m own b s).left
  unfolding own_vote
  plain-own-vote b =
      let n = author_number (author_check m own 1) in
      plain-checked (eqb n 0) n s (vote_tallied m own (quorum_of m) s b.digest b.round.0 own (stake_of m own))
      (plain-vote-tallied m own (quorum_of m) s b.digest b.round.0 own (stake_of m own))

  pub plain-own-timeout : Plain s.core (own_timeout m own s).left
  unfolding own_timeout
  plain-own-timeout =
      let n = author_number (author_check m own 1) in
      plain-checked (eqb n 0) n s (timeout_tallied m own (quorum_of m) s s.core.round.0 own (stake_of m own) s.core.high_qc.round.0)
      (plain-timeout-tallied m own (quorum_of m) s s.core.round.0 own (stake_of m own) s.core.high_qc.round.0)

  pub plain-timeout-taken : (t : Timeout) (signers : Signers) → Plain s.core (timeout_taken m own s t signers).left
  unfolding timeout_taken
  plain-timeout-taken t signers =
      let q = qc_of t.qc_hash t.qc_round.0 signers in
      let p = t.author.0 in
      plain_then (taken_qc s q) (λ (u : State). (timeout_tallied m own (quorum_of m) u t.round.0 p (stake_of m p) t.qc_round.0).left) (plain-taken s q)
      (plain-timeout-tallied m own (quorum_of m) (taken_qc s q).state t.round.0 p (stake_of m p) t.qc_round.0)

  pub plain-timeout : (t : Timeout) (r : List ℕ) → Plain s.core (handled_timeout m own s t r).left
  unfolding handled_timeout timeout_with
  plain-timeout t r =
      let qc = embedded_check m (quorum_of m) (qc_part r timeout_qc) in
      let n = first (timeout_check m s.core.round.0 t) (number_of qc qc_requires_quorum) in
      plain-checked (eqb n 0) n s (timeout_taken m own s t (signers_of qc)) (plain-timeout-taken t (signers_of qc))

  pub plain-tc-taken : (round : ℕ) (names : Signers) (part : List ℕ) → Plain s.core (tc_taken m own s round names part)
  unfolding tc_taken
  plain-tc-taken round names part =
      let u = (advanced s round).state in
      plain_then (advanced s round) (λ (t : State). record { state = t; outs = make_with_of m own t.core round names.0 (highs_of part) }) (plain-advanced s round)
      (plain-outs u (make_with_of m own u.core round names.0 (highs_of part)) (silent-made-with m own u.core round names.0 (highs_of part)))

  pub plain-tc : (round : ℕ) (r : List ℕ) → Plain s.core (handled_tc m own s round r).left
  unfolding handled_tc tc_with
  plain-tc round r =
      let part = tc_part r tc_body in
      let tc = tc_check m (quorum_of m) part in
      let n = first (number_of tc tc_requires_quorum) (stale_if round s.core.round.0) in
      plain-checked (eqb n 0) n s (done 0 (tc_taken m own s round (signers_of tc) part)) (plain-tc-taken round (signers_of tc) part)

plain-advanced-tc : (s : State) (b : Block) → Plain s.core (advanced_tc b s)
unfolding advanced_tc
plain-advanced-tc s b = cases b.tc
  where
    cases : (k : Option BlockTc) → Plain s.core (advanced_by k s)
    cases None = plain_quiet s
    cases (Some k) = plain-advanced s k.round.0

pub plain-certificates : (s : State) (b : Block) (signers : Signers) → Plain s.core (taken s b signers)
unfolding taken
plain-certificates s b signers =
    let q = qc_of b.qc_hash b.qc_round.0 signers in
    plain_then (taken_qc s q) (advanced_tc b) (plain-taken s q) (plain-advanced-tc (taken_qc s q).state b)

pub plain-proposal : (m : List ℕ) (s : State) (b : Block) (r : List ℕ) (payload : ℕ) → Plain s.core (proposal_of m s b r payload).out.left
unfolding proposal_of proposal_with by_payload
plain-proposal m s b r payload = cases (eqb (proposal_check m b r (qc_found m r)) 0) (proposal_check m b r (qc_found m r))
  where
    cases : (t : Bool) (n : ℕ) → Plain s.core (cond t (by_payload payload (taken s b (signers_of (qc_found m r)))) (record { goes_on = false; out = refused n s })).out.left
    cases true n = plain-certificates s b (signers_of (qc_found m r))
    cases false n = plain_quiet s

-- START
pub silent-announced : (m : List ℕ) (own : ℕ) (c : Core) → Silent (announced m own c)
unfolding announced
silent-announced m own c = silent-append (timer_reset ∷ []) (make_of m own c) silent-reset (silent-made m own c)
