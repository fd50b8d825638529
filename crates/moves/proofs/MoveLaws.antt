-- Laws of the moves from round to round: what the definitions give, one law for each way out of the code, and what a move leaves as it was. Assumes nothing.
--     advanced-..., raised-..., made-..., made-with-...     the cases of the definitions; taken_is, certified-is, timed-out-is open the others
--     advance-..., raise-..., qc-...            `advance_round`, `update_high_qc`, `process_qc`, `certify`
--     make-..., make-with-...                   `generate_proposal`, `generate_proposal_with`
--     tc-..., timeout-...                       `write_tc`, `write_tc_at`, `time_out`
--     Keeps                                     what a move leaves as it was
--     keeps-none, keeps_then                    no move, and two in a row
--     did-keeps, reached-keeps                  what code left
--     ...-keeps                                 each of the moves
use Prim.Native.Nat.{ℕ, ◌+◌, ◌≤◌, ◌<◌}
use mathlib.Core.Bool.{Bool, true, false}
use mathlib.Core.List.{List, [], ◌∷◌}
use mathlib.Core.Path.{◌≡◌, refl, sym, ◌∙◌}
use native.Mathlib.Nat.{le_refl, le_trans, le_of_lt}
use native.Mathlib.Omega.{arith}
use borrow.Author.Tests.{eq-eqb, ne_eqb, lt-ltb, le-ltb, ltb-true, ltb-false}
use lib.Dec.{ltb}
use lib.ListN.{length}
use Rattle.certificates.specs.declared.messages.QC.{QC}
use Rattle.certificates.specs.Leader.{leader_of}
use Rattle.outputs.specs.Put.{Put, PutTo, Wrote}
use Rattle.outputs.specs.Records.{timer_reset, tc, make, make_with, enc, timer_reset_size, tc_most, make_size, make_with_most}
use Rattle.outputs.proofs.Wrote.{wrote_none, wrote_one, wrote-put-to, wrote_then}
use Rattle.aggregator.specs.Tally.{vote_width, timeout_width}
use Rattle.aggregator.specs.Tallies.{vote_tallies, timeout_tallies, votes_length, timeouts_length, Light, dropped, highs_at, HighsAs}
use Rattle.aggregator.proofs.Laws.{dropped-length, dropped-light}
use Rattle.moves.specs.declared.state.Core.{Core}
use Rattle.moves.specs.declared.state.Ran.{Ran}
use Rattle.moves.specs.State.{State, whole, with_core, in_round, with_high}
use Rattle.moves.specs.Outcome.{Step, Outcome, quiet, wrote, and_then, Did, Reached}
use Rattle.moves.specs.Moves.{in_new_round, advanced, raised, taken_qc, make_of, make_with_of, certified, tc_outs, timed_out, advance_most, certify_most, tc_outs_most, time_out_most}
use Rattle.moves.proofs.Outcomes.{did-quiet, did-wrote, did_then}

-- ---- what the definitions give

module _ (s : State) (r : ℕ) where
  pub advanced-below : r < s.core.round.0 → advanced s r ≡ quiet s
  unfolding advanced
  advanced-below h = rw (lt-ltb _ _ h)

  pub advanced-at : s.core.round.0 ≤ r → advanced s r ≡ wrote (in_new_round s (r + 1)) timer_reset
  unfolding advanced
  advanced-at h = rw (le-ltb _ _ h)

module _ (c : Core) (q : QC) where
  pub raised-above : c.high_qc.round.0 < q.round.0 → raised c q ≡ with_high c q
  unfolding raised
  raised-above h = rw (lt-ltb _ _ h)

  pub raised-not : q.round.0 ≤ c.high_qc.round.0 → raised c q ≡ c
  unfolding raised
  raised-not h = rw (le-ltb _ _ h)

module _ (m : List ℕ) (own : ℕ) (c : Core) where
  pub made-leads : leader_of m c.round.0 ≡ own → make_of m own c ≡ make c.round.0 c.high_qc ∷ []
  unfolding make_of
  made-leads h = rw (eq-eqb _ _ h)

  pub made-follows : (leader_of m c.round.0 ≡ own → ⊥) → make_of m own c ≡ []
  unfolding make_of
  made-follows h = rw (ne_eqb _ _ h)

  module _ (of names : ℕ) (highs : List ℕ) where
    pub made-with-leads : leader_of m c.round.0 ≡ own → make_with_of m own c of names highs ≡ make_with c.round.0 c.high_qc of names highs ∷ []
    unfolding make_with_of
    made-with-leads h = rw (eq-eqb _ _ h)

    pub made-with-follows : (leader_of m c.round.0 ≡ own → ⊥) → make_with_of m own c of names highs ≡ []
    unfolding make_with_of
    made-with-follows h = rw (ne_eqb _ _ h)

    pub tc-outs-is : tc_outs m own c of names highs ≡ tc of names highs ∷ make_with_of m own c of names highs
    unfolding tc_outs
    tc-outs-is = refl

pub taken_is : (s : State) (q : QC) → taken_qc s q ≡ and_then (advanced s q.round.0) (λ (t : State). quiet (with_core t (raised t.core q)))
unfolding taken_qc
taken_is s q = refl

pub certified-is : (m : List ℕ) (own : ℕ) (s : State) (q : QC)
    → certified m own s q ≡ and_then (taken_qc s q) (λ (t : State). record { state = t; outs = make_of m own t.core })
unfolding certified
certified-is m own s q = refl

pub timed-out-is : (m : List ℕ) (own : ℕ) (s : State) (round names : ℕ) (highs : List ℕ)
    → timed_out m own s round names highs ≡ and_then (advanced s round) (λ (t : State). record { state = t; outs = tc_outs m own t.core round names highs })
unfolding timed_out
timed-out-is m own s round names highs = refl

-- ---- a round is advanced, a QC is taken

module _ (core : Core) (votes timeouts : List ℕ) (r : ℕ) where
  pub advance-stays : (out : List ℕ) (at : ℕ) → r < core.round.0 → Did advance_most (advanced (whole core votes timeouts) r) out at core votes timeouts out at
  advance-stays out at h = rw (advanced-below (whole core votes timeouts) r h) (did-quiet advance_most core votes timeouts out at)

  pub advance-moves : {v t out out' : List ℕ} {at next : ℕ} → core.round.0 ≤ r → v ≡ dropped vote_width vote_tallies votes (r + 1)
      → t ≡ dropped timeout_width timeout_tallies timeouts (r + 1) → Put out at timer_reset_size (enc timer_reset) out' next
      → Did advance_most (advanced (whole core votes timeouts) r) out at (in_round core (r + 1)) v t out' next
  advance-moves h d e p = rw (advanced-at (whole core votes timeouts) r h) (record { state = rw (d, e); bytes = wrote_one timer_reset p })

module _ (core : Core) (q : QC) where
  pub raise-new : core.high_qc.round.0 < q.round.0 → with_high core q ≡ raised core q
  raise-new h = sym (raised-above core q h)

  pub raise-old : q.round.0 ≤ core.high_qc.round.0 → core ≡ raised core q
  raise-old h = sym (raised-not core q h)

module _ (s : State) (q : QC) {out out' v t : List ℕ} {at next : ℕ} {c : Core} where
  pub qc-taken : {n : Core} → Did advance_most (advanced s q.round.0) out at c v t out' next → n ≡ raised c q → Did advance_most (taken_qc s q) out at n v t out' next
  qc-taken p e = rw (taken_is s q, e) (did_then (λ (u : State). quiet (with_core u (raised u.core q))) p (did-quiet 0 (raised c q) v t out' next))

  pub qc-certified : (m : List ℕ) (own : ℕ) {out'' : List ℕ} {end : ℕ} → Did advance_most (taken_qc s q) out at c v t out' next
      → Wrote make_size (make_of m own c) out' next out'' end → Did certify_most (certified m own s q) out at c v t out'' end
  qc-certified m own p w = rw (certified-is m own s q) (did_then (λ (u : State). record { state = u; outs = make_of m own u.core }) p (did-wrote c v t w))

-- ---- MAKE

module _ (m : List ℕ) (own : ℕ) (core : Core) {out : List ℕ} {at l : ℕ} (leader : l ≡ leader_of m core.round.0) where
  pub make-leads : {out' : List ℕ} {next : ℕ} → l ≡ own → Put out at make_size (enc (make core.round.0 core.high_qc)) out' next
      → Wrote make_size (make_of m own core) out at out' next
  make-leads h p = rw (made-leads m own core (sym leader ∙ h)) (wrote_one (make core.round.0 core.high_qc) p)

  pub make-follows : (l ≡ own → ⊥) → Wrote make_size (make_of m own core) out at out at
  make-follows h = rw (made-follows m own core (λ e. h (leader ∙ e))) (wrote_none make_size out at)

  module _ (of names : ℕ) (highs : List ℕ) where
    pub make-with-leads : {out' : List ℕ} {next : ℕ} → l ≡ own
        → PutTo make_with_most out at (enc (make_with core.round.0 core.high_qc of names highs)) out' next
        → Wrote make_with_most (make_with_of m own core of names highs) out at out' next
    make-with-leads h p =
        rw (made-with-leads m own core of names highs (sym leader ∙ h)) (wrote-put-to (make_with core.round.0 core.high_qc of names highs) p)

    pub make-with-follows : (l ≡ own → ⊥) → Wrote make_with_most (make_with_of m own core of names highs) out at out at
    make-with-follows h = rw (made-with-follows m own core of names highs (λ e. h (leader ∙ e))) (wrote_none make_with_most out at)

-- ---- a quorum of timeouts

module _ (m : List ℕ) (own : ℕ) (core : Core) (round names : ℕ) (highs : List ℕ) where
  pub tc-wrote : {out out' out'' : List ℕ} {at mid next : ℕ} → PutTo tc_most out at (enc (tc round names highs)) out' mid
      → Wrote make_with_most (make_with_of m own core round names highs) out' mid out'' next → Wrote tc_outs_most (tc_outs m own core round names highs) out at out'' next
  tc-wrote p w = rw (tc-outs-is m own core round names highs) (wrote_then (wrote-put-to (tc round names highs) p) w)

  -- the high rounds are those of a row
  pub tc-at : (timeouts : List ℕ) (i : ℕ) {out out' : List ℕ} {at next : ℕ} → HighsAs timeouts i highs → Wrote tc_outs_most (tc_outs m own core round names highs) out at out' next
      → Wrote tc_outs_most (tc_outs m own core round names (highs_at timeouts i)) out at out' next
  tc-at timeouts i h w = rw (← h.is) w

  module _ (votes timeouts : List ℕ) where
    pub timeout-stays : {out out' : List ℕ} {at next : ℕ} → round < core.round.0 → Wrote tc_outs_most (tc_outs m own core round names highs) out at out' next
        → Did time_out_most (timed_out m own (whole core votes timeouts) round names highs) out at core votes timeouts out' next
    timeout-stays {out} {out'} {at} h w =
        rw (timed-out-is m own (whole core votes timeouts) round names highs)
        (did_then (λ (t : State). record { state = t; outs = tc_outs m own t.core round names highs }) (advance-stays core votes timeouts round out at h)
        (did-wrote core votes timeouts w))

    pub timeout-moves : {out out' out'' v t : List ℕ} {at mid next : ℕ} → core.round.0 ≤ round → Put out at timer_reset_size (enc timer_reset) out' mid
        → Wrote tc_outs_most (tc_outs m own (in_round core (round + 1)) round names highs) out' mid out'' next
        → v ≡ dropped vote_width vote_tallies votes (round + 1) → t ≡ dropped timeout_width timeout_tallies timeouts (round + 1)
        → Did time_out_most (timed_out m own (whole core votes timeouts) round names highs) out at (in_round core (round + 1)) v t out'' next
    timeout-moves {v = v} {t = t} h p w d e =
        rw (timed-out-is m own (whole core votes timeouts) round names highs)
        (did_then (λ (u : State). record { state = u; outs = tc_outs m own u.core round names highs }) (advance-moves core votes timeouts round h d e p)
        (did-wrote (in_round core (round + 1)) v t w))

-- ---- what a move leaves as it was

-- The tables are as long as they were, and no tally in use is heavier than the total if none was; neither the round nor the high QC's falls; what was
-- voted and committed stays.
pub record Keeps (total : ℕ) (s s' : State) : Type 0 where
  pub votes : length s'.votes ≡ length s.votes
  pub timeouts : length s'.timeouts ≡ length s.timeouts
  pub votes-light : Light vote_width vote_tallies s.votes total → Light vote_width vote_tallies s'.votes total
  pub timeouts-light : Light timeout_width timeout_tallies s.timeouts total → Light timeout_width timeout_tallies s'.timeouts total
  pub round : s.core.round.0 ≤ s'.core.round.0
  pub high : s.core.high_qc.round.0 ≤ s'.core.high_qc.round.0
  pub voted : s'.core.last_voted_round ≡ s.core.last_voted_round
  pub committed : s'.core.last_committed_round ≡ s.core.last_committed_round

pub keeps-none : (total : ℕ) (s : State) → Keeps total s s
keeps-none total s =
    record {
      votes = refl;
      timeouts = refl;
      votes-light = λ h. h;
      timeouts-light = λ h. h;
      round = le_refl _;
      high = le_refl _;
      voted = refl;
      committed = refl;
    }

pub keeps_then : {total : ℕ} {s t u : State} → Keeps total s t → Keeps total t u → Keeps total s u
keeps_then a b =
    record {
      votes = b.votes ∙ a.votes;
      timeouts = b.timeouts ∙ a.timeouts;
      votes-light = λ h. b.votes-light (a.votes-light h);
      timeouts-light = λ h. b.timeouts-light (a.timeouts-light h);
      round = le_trans a.round b.round;
      high = le_trans a.high b.high;
      voted = b.voted ∙ a.voted;
      committed = b.committed ∙ a.committed;
    }

-- what code left, where the definition keeps
pub did-keeps : {k at next total : ℕ} {a : Step} {before last v t : List ℕ} {c : Core} {s : State} → Did k a before at c v t last next → Keeps total s a.state
    → Keeps total s (whole c v t)
did-keeps d h = rw d.state h

pub reached-keeps : {k at total : ℕ} {o : Outcome} {before last v t : List ℕ} {r : Ran} {s : State} → Reached k o before at r v t last → Keeps total s o.left.state
    → Keeps total s (whole r.core v t)
reached-keeps d h = did-keeps d.did h

raised_keeps : (total : ℕ) (s : State) (q : QC) → Keeps total s (with_core s (raised s.core q))
raised_keeps total s q = cases (ltb s.core.high_qc.round.0 q.round.0) refl
  where
    cases : (b : Bool) → ltb s.core.high_qc.round.0 q.round.0 ≡ b → Keeps total s (with_core s (raised s.core q))
    cases false e = rw (raised-not s.core q (ltb-false _ _ e)) (keeps-none total s)
    cases true e =
        rw (raised-above s.core q (ltb-true _ _ e))
        (record {
          votes = refl;
          timeouts = refl;
          votes-light = λ l. l;
          timeouts-light = λ l. l;
          round = le_refl _;
          high = le_of_lt (ltb-true _ _ e);
          voted = refl;
          committed = refl;
        })

module _ (total : ℕ) (s : State) (long : length s.votes ≡ votes_length) (wide : length s.timeouts ≡ timeouts_length) where
  pub advanced-keeps : (r : ℕ) → Keeps total s (advanced s r).state
  advanced-keeps r = cases (ltb r s.core.round.0) refl
    where
      cases : (b : Bool) → ltb r s.core.round.0 ≡ b → Keeps total s (advanced s r).state
      cases true e = rw (advanced-below s r (ltb-true _ _ e)) (keeps-none total s)
      cases false e =
          rw (advanced-at s r (ltb-false _ _ e))
          (record {
            votes = dropped-length vote_width vote_tallies s.votes (r + 1);
            timeouts = dropped-length timeout_width timeout_tallies s.timeouts (r + 1);
            votes-light = dropped-light vote_width vote_tallies s.votes total (r + 1) refl (omega arith);
            timeouts-light = dropped-light timeout_width timeout_tallies s.timeouts total (r + 1) refl (omega arith);
            round = omega (arith, ltb-false r s.core.round.0 e);
            high = le_refl _;
            voted = refl;
            committed = refl;
          })

  pub taken-keeps : (q : QC) → Keeps total s (taken_qc s q).state
  taken-keeps q = rw (taken_is s q) (keeps_then (advanced-keeps q.round.0) (raised_keeps total (advanced s q.round.0).state q))

  pub certified-keeps : (m : List ℕ) (own : ℕ) (q : QC) → Keeps total s (certified m own s q).state
  certified-keeps m own q = rw (certified-is m own s q) (taken-keeps q)

  pub timed-out-keeps : (m : List ℕ) (own round names : ℕ) (highs : List ℕ) → Keeps total s (timed_out m own s round names highs).state
  timed-out-keeps m own round names highs = rw (timed-out-is m own s round names highs) (advanced-keeps round)

-- two in a row: a QC is taken, and then a round is advanced
pub taken-advanced-keeps : (total : ℕ) (s : State) → length s.votes ≡ votes_length → length s.timeouts ≡ timeouts_length → (q : QC) (r : ℕ)
    → Keeps total s (advanced (taken_qc s q).state r).state
taken-advanced-keeps total s long wide q r =
    let a = taken-keeps total s long wide q in
    keeps_then a (advanced-keeps total (taken_qc s q).state (a.votes ∙ long) (a.timeouts ∙ wide) r)

-- and where code did so
module _ (total : ℕ) (core : Core) (votes timeouts : List ℕ) (long : length votes ≡ votes_length) (wide : length timeouts ≡ timeouts_length)
    {k at next : ℕ} {before last v t : List ℕ} {c : Core} where
  pub did-advanced-keeps : (r : ℕ) → Did k (advanced (whole core votes timeouts) r) before at c v t last next → Keeps total (whole core votes timeouts) (whole c v t)
  did-advanced-keeps r d = did-keeps d (advanced-keeps total (whole core votes timeouts) long wide r)

  pub did-taken-keeps : (q : QC) → Did k (taken_qc (whole core votes timeouts) q) before at c v t last next → Keeps total (whole core votes timeouts) (whole c v t)
  did-taken-keeps q d = did-keeps d (taken-keeps total (whole core votes timeouts) long wide q)
