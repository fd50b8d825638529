-- Demand 1, "An early refusal changes nothing", by the number that the host sees: whatever happened before, an event whose number is not one of those that
-- may keep something left the record and the table as they were, and wrote nothing. Assumes nothing.
--     early-unchanged      any event
use Prim.Native.Nat.{ℕ}
use mathlib.Core.Bool.{Bool, true, false, cond, true≢false}
use mathlib.Core.List.{List}
use mathlib.Core.Logic.{◌⊎◌, inl, inr}
use mathlib.Core.Path.{◌≡◌, refl, sym, ◌∙◌, ap}
use lib.Dec.{eqb, ltb}
use lib.ListN.{length, drop}
use Rattle.std.specs.Prelude.{Option, None, Some}
use Rattle.certificates.specs.declared.numbers.Stake.{Stake}
use Rattle.certificates.specs.Config.{stake_of, quorum_of}
use Rattle.certificates.specs.Signers.{member}
use Rattle.certificates.specs.Messages.{embedded_check, tc_check, author_check}
use Rattle.certificates.specs.Start.{setup_at}
use Rattle.certificates.specs.Error.{wait_payload, invalid_payload, round_too_high, qc_requires_quorum, tc_requires_quorum, number_of, author_number, no_room, ancestor_absent, round_not_below}
use Rattle.trace.specs.declared.events.Kind.{Kind}
use Rattle.trace.specs.declared.events.Block.{Block}
use Rattle.trace.specs.declared.events.Timeout.{Timeout}
use Rattle.trace.specs.declared.events.Vote.{Vote}
use Rattle.trace.specs.Form.{form_of}
use Rattle.trace.specs.Limits.{limit_of}
use Rattle.trace.specs.Fields.{vote_of, timeout_of, block_of}
use Rattle.certificates.specs.Numbers.{round_max}
use Rattle.trace.specs.Layout.{timeout_qc, tc_body, qc_part, tc_part, tc_round, payload_of}
use Rattle.synchronizer.specs.declared.table.Slot.{Slot}
use Rattle.synchronizer.specs.declared.settle.Arrival.{Arrival}
use Rattle.synchronizer.specs.Settle.{Settlement}
use Rattle.synchronizer.specs.Kept.{waiting, no_place, no_b0, stopped_by, Keeps}
use Rattle.moves.specs.State.{State}
use Rattle.moves.specs.Outcome.{Outcome, done, after, refused}
use Rattle.moves.specs.Tallied.{vote_tallied, timeout_tallied}
use Rattle.handlers.proofs.VoteTheorems.{Votes, tallied-votes, author-votes, voting-votes}
use Rattle.handlers.specs.Sound.{first, signers_of}
use Rattle.handlers.specs.Votes.{vote_check, handled_vote, voting}
use Rattle.handlers.specs.Timeouts.{timeout_check, timeout_taken, timeout_with, handled_timeout, tc_taken, stale_if, tc_with, handled_tc, ticked, own_timeout, handled_tick}
use Rattle.handlers.specs.Proposals.{qc_found, proposal_check, taken, by_payload, payload_number, proposal_with, proposal_of}
use Rattle.replica.specs.Blocks.{arrival_for, settled_for, settled_step, after_settled, processed, processed_table, going_on, going_on_table}
use Rattle.replica.specs.Step.{World, Result, refused_in, in_world, begun, begun_by, committee, handled, started, sized_in, on_start, on_other, on_kind, stepped}
use Rattle.replica.specs.Started.{roomy}
use Rattle.runs.specs.Runs.{Event, step_on}
use Rattle.runs.specs.Numbers.{may_keep}
use Rattle.runs.proofs.Late.{settled-rows}
use Rattle.runs.proofs.Answers.{votes-in, tallied-in}

abbrev Keeping : ℕ → Type 0
Keeping n = may_keep n ≡ true

-- refused with nothing done, or answered with a number that may keep something
abbrev Fair : State → Outcome → Type 0
Fair s o = (o ≡ refused o.answer s) ⊎ Keeping o.answer

-- ---- numbers

-- what a vote may be answered with may keep something
votes-keep : (n : ℕ) → Votes n → Keeping n
unfolding may_keep member
votes-keep n v = votes-in Keeping refl refl refl refl n v

timeout-tallied-keeping : (m : List ℕ) (own need : ℕ) (s : State) (round p stake high : ℕ) → Keeping (timeout_tallied m own need s round p stake high).answer
unfolding may_keep member
timeout-tallied-keeping m own need s round p stake high = tallied-in Keeping refl refl refl m own need s round p stake high

-- ---- checks

fair-checked : (u : Bool) (n : ℕ) (s : State) (o : Outcome) → Keeping o.answer → Fair s (cond u o (refused n s))
fair-checked true n s o h = inr h
fair-checked false n s o h = inl refl

keeping-checked : (u : Bool) (n : ℕ) (s : State) (o : Outcome) → Keeping n → Keeping o.answer → Keeping (cond u o (refused n s)).answer
keeping-checked true n s o k h = h
keeping-checked false n s o k h = k

-- an own vote or timeout has verdict yes: it is refused only for want of stake
module _ (m : List ℕ) (own : ℕ) (s : State) where
  own-timeout-keeping : Keeping (own_timeout m own s).answer
  unfolding own_timeout
  own-timeout-keeping =
      let n = author_number (author_check m own 1) in
      keeping-checked (eqb n 0) n s (timeout_tallied m own (quorum_of m) s s.core.round.0 own (stake_of m own) s.core.high_qc.round.0) (votes-keep (author_number (author_check m own 1)) (author-votes m own))
      (timeout-tallied-keeping m own (quorum_of m) s s.core.round.0 own (stake_of m own) s.core.high_qc.round.0)

  -- ---- the handlers

  fair-vote : (v : Vote) → Fair s (handled_vote m own s v)
  unfolding handled_vote
  fair-vote v =
      let n = vote_check m s.core.round.0 v in
      let p = v.author.0 in
      fair-checked (eqb n 0) n s (vote_tallied m own (quorum_of m) s v.hash v.round.0 p (stake_of m p))
      (votes-keep (vote_tallied m own (quorum_of m) s v.hash v.round.0 p (stake_of m p)).answer (tallied-votes m own (quorum_of m) s v.hash v.round.0 p (stake_of m p)))

  fair-timeout : (t : Timeout) (r : List ℕ) → Fair s (handled_timeout m own s t r)
  unfolding handled_timeout timeout_with timeout_taken
  fair-timeout t r =
      let qc = embedded_check m (quorum_of m) (qc_part r timeout_qc) in
      let n = first (timeout_check m s.core.round.0 t) (number_of qc qc_requires_quorum) in
      fair-checked (eqb n 0) n s (timeout_taken m own s t (signers_of qc)) (timeout-tallied-keeping m own (quorum_of m) _ t.round.0 t.author.0 (stake_of m t.author.0) t.qc_round.0)

  fair-tc : (round : ℕ) (r : List ℕ) → Fair s (handled_tc m own s round r)
  unfolding handled_tc tc_with may_keep member
  fair-tc round r =
      let tc = tc_check m (quorum_of m) (tc_part r tc_body) in
      let n = first (number_of tc tc_requires_quorum) (stale_if round s.core.round.0) in
      fair-checked (eqb n 0) n s (done 0 (tc_taken m own s round (signers_of tc) (tc_part r tc_body))) refl

fair-tick : (m : List ℕ) (own : ℕ) (s : State) → Fair s (handled_tick m own s)
unfolding handled_tick
fair-tick m own s = cases (ltb round_max s.core.round.0)
  where
    cases : (u : Bool) → Fair s (cond u (refused round_too_high s) (after (ticked s) (own_timeout m own)))
    cases true = inl refl
    cases false = inr (own-timeout-keeping m own (ticked s).state)

-- ---- blocks

-- every row has such a number
of_row : (p q : Settlement) → p ≡ q → Keeping q.answer → Keeping p.answer
of_row p q e h = rw e h

row-keeping : (t : List Slot) (w : Arrival) (p : Settlement) → Keeps t w p → Keeping p.answer
unfolding may_keep member
row-keeping t w p (inl e) = of_row p (waiting t w) e refl
row-keeping t w p (inr (inl e)) = of_row p (no_place t w) e refl
row-keeping t w p (inr (inr (inl e))) = of_row p (no_b0 t w) e refl
row-keeping t w p (inr (inr (inr (inl e)))) = of_row p (stopped_by ancestor_absent t w) e refl
row-keeping t w p (inr (inr (inr (inr (inl e))))) = of_row p (stopped_by round_not_below t w) e refl
row-keeping t w p (inr (inr (inr (inr (inr e))))) = rw e.1

settled-keeping : (s : State) (t : List Slot) (b : Block) → Keeping (settled_for s t b).answer
settled-keeping s t b = row-keeping t (arrival_for b s.core.last_committed_round 0) (settled_for s t b) (settled-rows t b s)

processed-keeping : (m : List ℕ) (own : ℕ) (t : List Slot) (b : Block) (s : State) → Keeping (processed m own t b s).answer
unfolding processed after_settled
processed-keeping m own t b s = cases (eqb (settled_for s t b).answer 0)
  where
    cases : (u : Bool) → Keeping (cond u (after (settled_step s (settled_for s t b)) (voting m own b)) (done (settled_for s t b).answer (settled_step s (settled_for s t b)))).answer
    cases true = votes-keep (voting m own b (settled_step s (settled_for s t b)).state).answer (voting-votes m own b (settled_step s (settled_for s t b)).state)
    cases false = settled-keeping s t b

payload-keeping : (payload : ℕ) → Keeping (payload_number payload)
unfolding payload_number may_keep member
payload-keeping payload = cases (eqb payload 1) (eqb payload 0)
  where
    cases : (u v : Bool) → Keeping (cond u 0 (cond v wait_payload invalid_payload))
    cases true v = refl
    cases false true = refl
    cases false false = refl

fair-proposal : (m : List ℕ) (s : State) (b : Block) (r : List ℕ) (payload : ℕ) → Fair s (proposal_of m s b r payload).out
unfolding proposal_of proposal_with by_payload
fair-proposal m s b r payload = cases (eqb (proposal_check m b r (qc_found m r)) 0) (proposal_check m b r (qc_found m r))
  where
    cases : (u : Bool) (n : ℕ) → Fair s (cond u (by_payload payload (taken s b (signers_of (qc_found m r)))) (record { goes_on = false; out = refused n s })).out
    cases true n = inr (payload-keeping payload)
    cases false n = inl refl

-- ---- an event's own part

Unchanged : World → Result → Type 0
Unchanged w x = (x ≡ refused_in x.answer w) ⊎ Keeping x.answer

fair-unchanged : (w : World) (o : Outcome) → Fair w.state o → Unchanged w (in_world w w.table o)
unfolding Unchanged
fair-unchanged w o (inl e) = inl (ap (in_world w w.table) e)
fair-unchanged w o (inr h) = inr h

going-unchanged : (w : World) (b : Block) (goes : Bool) (o : Outcome) → Fair w.state o
    → Unchanged w (in_world w (cond goes (processed_table w.table b o.left.state) w.table) (cond goes (after o.left (processed (committee w) w.seat.own.0 w.table b)) o))
unfolding Unchanged
going-unchanged w b true o h = inr (processed-keeping (committee w) w.seat.own.0 w.table b o.left.state)
going-unchanged w b false o h = fair-unchanged w o h

handled-unchanged : (w : World) (r : List ℕ) (k : Kind) → Unchanged w (handled w r k)
unfolding Unchanged going_on going_on_table
handled-unchanged w r Kind.Start = inl refl
handled-unchanged w r Kind.Propose =
    let p = proposal_of (committee w) w.state (block_of r) r (payload_of r) in
    going-unchanged w (block_of r) p.goes_on p.out (fair-proposal (committee w) w.state (block_of r) r (payload_of r))
handled-unchanged w r Kind.Vote =
    fair-unchanged w (handled_vote (committee w) w.seat.own.0 w.state (vote_of r)) (fair-vote (committee w) w.seat.own.0 w.state (vote_of r))
handled-unchanged w r Kind.Timeout =
    fair-unchanged w (handled_timeout (committee w) w.seat.own.0 w.state (timeout_of r) r) (fair-timeout (committee w) w.seat.own.0 w.state (timeout_of r) r)
handled-unchanged w r Kind.Tc =
    fair-unchanged w (handled_tc (committee w) w.seat.own.0 w.state (tc_round r tc_body) r) (fair-tc (committee w) w.seat.own.0 w.state (tc_round r tc_body) r)
handled-unchanged w r Kind.Loopback = inr (processed-keeping (committee w) w.seat.own.0 w.table (block_of r) w.state)
handled-unchanged w r Kind.Tick = fair-unchanged w (handled_tick (committee w) w.seat.own.0 w.state) (fair-tick (committee w) w.seat.own.0 w.state)

-- ---- any event

begun-unchanged : (w : World) (r : List ℕ) → Unchanged w (begun w r)
unfolding Unchanged begun may_keep member
begun-unchanged w r = cases (setup_at (drop 2 r))
  where
    cases : (st : Option Stake) → Unchanged w (begun_by w r st)
    cases None = inl refl
    cases (Some t) = inr refl

roomy-unchanged : (w : World) (x : Result) (u v : Bool) (m n : ℕ) → Unchanged w x → Unchanged w (cond u (cond v x (refused_in m w)) (refused_in n w))
unfolding Unchanged
roomy-unchanged w x true true m n h = h
roomy-unchanged w x true false m n h = inl refl
roomy-unchanged w x false v m n h = inl refl

start-unchanged : (w : World) (room : ℕ) (r : List ℕ) (st : Option Stake) → Unchanged w (on_start w room r st)
unfolding Unchanged
start-unchanged w room r (Some t) = inl refl
start-unchanged w room r None = roomy-unchanged w (begun w r) (roomy (length w.table) room) (sized_in w) no_room no_room (begun-unchanged w r)

other-unchanged : (w : World) (room : ℕ) (r : List ℕ) (k : Kind) (st : Option Stake) → Unchanged w (on_other w room r k st)
unfolding Unchanged
other-unchanged w room r k None = inl refl
other-unchanged w room r k (Some t) =
    roomy-unchanged w (handled w r k) (roomy (length w.table) room) (eqb (limit_of r k) 0) (limit_of r k) no_room (handled-unchanged w r k)

step-unchanged : (w : World) (e : Event) → Unchanged w (step_on w e)
unfolding Unchanged stepped
step-unchanged w e = cases (form_of e.bytes)
  where
    cases : (k : Option Kind) → Unchanged w (on_kind w e.room e.bytes k)
    cases None = inl refl
    cases (Some Kind.Start) = start-unchanged w e.room e.bytes (started w)
    cases (Some Kind.Propose) = other-unchanged w e.room e.bytes Kind.Propose (started w)
    cases (Some Kind.Vote) = other-unchanged w e.room e.bytes Kind.Vote (started w)
    cases (Some Kind.Timeout) = other-unchanged w e.room e.bytes Kind.Timeout (started w)
    cases (Some Kind.Tc) = other-unchanged w e.room e.bytes Kind.Tc (started w)
    cases (Some Kind.Loopback) = other-unchanged w e.room e.bytes Kind.Loopback (started w)
    cases (Some Kind.Tick) = other-unchanged w e.room e.bytes Kind.Tick (started w)

-- An event whose number is not one of those that may keep something left the record and the table as they were, and wrote nothing.
pub early-unchanged : (w : World) (e : Event) → may_keep (step_on w e).answer ≡ false → step_on w e ≡ refused_in (step_on w e).answer w
unfolding Unchanged
early-unchanged w e h = cases (step-unchanged w e)
  where
    cases : Unchanged w (step_on w e) → step_on w e ≡ refused_in (step_on w e).answer w
    cases (inl f) = f
    cases (inr k) = absurd (true≢false (sym k ∙ h))
