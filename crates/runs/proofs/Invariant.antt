-- The invariant of a course, from START on: true after a START that was taken, kept by every step, so true all along. It asks nothing of the results of signature checks
-- (`unknown`). Assumes nothing.
--     Invariant seat stakes w     what holds of the world w in a course whose START left this seat and these stakes
--     Well seat stakes x          a step's result: the invariant holds after it, and the certificates that it writes pass the check
--     invariant-started           a world with the invariant counts as started, so no second START is taken
--     invariant-start             .. after a START that was taken
--     invariant-step              .. after every step from such a world
--     invariant-next              .. after every stage, restart included
--     invariant-course            .. of the world that a course leaves
--     high-signers                the high QC's signers are members
--     course-certificates         all certificates that a course writes pass the check
--     made-qc-accepted, made-tc-accepted     those that its tallies make, at the moment they are made
use Prim.Native.Nat.{ℕ, ◌<◌}
use mathlib.Core.Bool.{true, false}
use mathlib.Core.List.{List, [], ◌∷◌}
use mathlib.Core.Path.{◌≡◌, refl, sym, ◌∙◌}
use native.Mathlib.Omega.{arith}
use lib.ListN.{length, drop}
use Rattle.std.specs.Prelude.{Option, Some, Ok}
use Rattle.certificates.specs.declared.numbers.Hash.{Hash}
use Rattle.certificates.specs.declared.numbers.Signers.{Signers}
use Rattle.certificates.specs.declared.numbers.Stake.{Stake}
use Rattle.certificates.specs.Config.{members_max, stake_of, sum, quorum_of, setup_of}
use Rattle.certificates.specs.Messages.{qc_check}
use Rattle.certificates.specs.Signers.{is_in, words}
use Rattle.certificates.specs.Start.{setup_at}
use Rattle.certificates.proofs.Check.{Known}
use Rattle.certificates.proofs.ConfigLaws.{stake-member, within}
use Rattle.certificates.proofs.SignersLaws.{signer-none}
use Rattle.certificates.proofs.StartLaws as start
use Rattle.outputs.specs.Records.{Rec}
use Rattle.aggregator.specs.Tally.{vote_width, timeout_width, quorum_at}
use Rattle.aggregator.specs.Tallies.{vote_tallies, timeout_tallies, votes_length, timeouts_length, heavy, vote_added, timeout_added}
use Rattle.aggregator.proofs.TableLaws.{Each}
use Rattle.aggregator.proofs.Laws.{light-heavy}
use Rattle.moves.specs.State.{State}
use Rattle.moves.specs.Tallied.{qc_of}
use Rattle.replica.specs.declared.started.Seat.{Seat}
use Rattle.replica.specs.Started.{members_of, shaped, light_in, started_of}
use Rattle.replica.specs.Step.{World, Result, new_seat, new_stakes, committee, started}
use Rattle.replica.proofs.StartedLaws.{sized-all, shaped-all}
use Rattle.runs.specs.Runs.{Event, step_on, Begun, Written}
use Rattle.runs.specs.Courses.{Stage, next, world_after, outs_of, Course, origin, end, outputs}
use Rattle.runs.specs.Signed.{Sends, GoodTC, qc_bytes}
use Rattle.runs.proofs.Steps.{step-lawful, starts}
use Rattle.runs.proofs.Tallied.{Tallied, tallied-light}
use Rattle.runs.proofs.Certificates.{quorate-qc, quorate-tc}
use Rattle.runs.proofs.Kept.{Signatures, unknown, VotesIn, ExpiresIn, Every, none, every_append, every_map, every-written, Backed, first, backed, Kept, kept_new, writes-announced, vote-quorate, timeout-quorate}
use Rattle.runs.proofs.Results.{good-any}
use Rattle.runs.proofs.Restart.{leaves-seat, leaves_kept}

pub record Invariant (seat : Seat) (stakes : List ℕ) (w : World) : Type 0 where
  -- count, own place and stakes are as START left them, within the limits
  pub seated : w.seat ≡ seat
  pub staked : w.stakes ≡ stakes
  pub shape : shaped seat (length stakes) votes_length timeouts_length ≡ true
  pub total : Stake
  pub setup : setup_of (members_of seat stakes) ≡ Some total
  -- tallies, high QC and rounds
  pub state : Kept (members_of seat stakes) unknown w.state

pub record Well (seat : Seat) (stakes : List ℕ) (x : Result) : Type 0 where
  pub world : Invariant seat stakes x.world
  pub outs : Every (Sends (members_of seat stakes)) x.outs

-- ---- such a world counts as started

light-total : (votes timeouts : List ℕ) (t : Stake) (s : Option Stake) → s ≡ Some t → heavy vote_width vote_tallies votes t.0 ≡ false → heavy timeout_width timeout_tallies timeouts t.0 ≡ false
    → light_in votes timeouts s ≡ Some t
light-total votes timeouts t s e a b = rw (e, a, b)

not-heavy : (m : List ℕ) (by : List ℕ → ℕ → Type 0) (w n : ℕ) (v : List ℕ) (t : Stake) → sum m ≡ t.0 → Each (Tallied m by) w n v → heavy w n v t.0 ≡ false
not-heavy m by w n v t e all = rw e at (light-heavy w n v (sum m) (tallied-light m by w n v all))

-- A world with the invariant counts as started.
pub invariant-started : {seat : Seat} {stakes : List ℕ} {w : World} (i : Invariant seat stakes w) → started w ≡ Some i.total
unfolding started_of
invariant-started {seat} {stakes} {w} i =
    let m = members_of seat stakes in
    let k = i.state in
    let t : sum m ≡ i.total.0 = sym (within m i.total i.setup).total in
    let a = not-heavy m (VotesIn unknown) vote_width vote_tallies w.state.votes i.total t k.votes in
    let b = not-heavy m (ExpiresIn unknown) timeout_width timeout_tallies w.state.timeouts i.total t k.timeouts in
    rw (i.seated, i.staked, k.long, k.wide, i.shape) (light-total w.state.votes w.state.timeouts i.total (setup_of m) i.setup a b)

-- ---- START

new-shape : (r : List ℕ) (t : Stake) → setup_at (drop 2 r) ≡ Some t → shaped (new_seat r) (length (new_stakes r)) votes_length timeouts_length ≡ true
unfolding new_stakes
new-shape r t e =
    let s = start.started (drop 2 r) t e in
    rw (start.length-loaded members_max (drop 2 r)) (sym (shaped-all members_max votes_length timeouts_length (new_seat r) s.few s.own (sized-all members_max votes_length timeouts_length refl refl)))

new-setup : (r : List ℕ) (t : Stake) → setup_at (drop 2 r) ≡ Some t → setup_of (members_of (new_seat r) (new_stakes r)) ≡ Some t
unfolding new_stakes
new-setup r t e = start.loaded-setup members_max (drop 2 r) t (omega arith) e

-- After a START that was taken the invariant holds, and what START writes passes the check.
pub invariant-start : (w : World) (e : Event) → Begun w e → Well (new_seat e.bytes) (new_stakes e.bytes) (step_on w e)
invariant-start w e b =
    let s = starts w e b in
    let r = e.bytes in
    let m = members_of (new_seat r) (new_stakes r) in
    rw s.is
    (record {
      world = record {
        seated = refl;
        staked = refl;
        shape = new-shape r s.total s.setup;
        total = s.total;
        setup = new-setup r s.total s.setup;
        state = kept_new m unknown;
      };
      outs = every_map (λ a h. h.sends) (writes-announced m unknown (new_seat r).own.0);
    })

-- ---- every step

module _ {seat : Seat} {stakes : List ℕ} where
  -- Every step keeps the invariant, and what it writes passes the check.
  pub invariant-step : (w : World) → Invariant seat stakes w → (e : Event) → Well seat stakes (step_on w e)
  invariant-step w i e =
      let s = invariant-started i in
      let l = step-lawful w e i.total s in
      let m : committee w ≡ members_of seat stakes = rw (i.seated, i.staked) in
      let a = rw m at (good-any w e i.total s (rw m i.state)) in
      record {
        world = record { seated = l.seat ∙ i.seated; staked = l.stakes ∙ i.staked; shape = i.shape; total = i.total; setup = i.setup; state = a.state };
        outs = every_map (λ r h. h.sends) a.outs;
      }

  -- A restart keeps it too.
  pub invariant-next : (w : World) → Invariant seat stakes w → (g : Stage) → Invariant seat stakes (next w g)
  invariant-next w i g =
      let x = (step_on w g.event).world in
      let k = (invariant-step w i g.event).world in
      let l = leaves-seat g x in
      record {
        seated = l.0 ∙ k.seated;
        staked = l.1 ∙ k.staked;
        shape = k.shape;
        total = k.total;
        setup = k.setup;
        state = leaves_kept g x (members_of seat stakes) unknown k.state;
      }

  invariant-stages : (w : World) → Invariant seat stakes w → (ss : List Stage) → Invariant seat stakes (world_after w ss)
  unfolding world_after
  invariant-stages w i [] = i
  invariant-stages w i (g ∷ gs) = invariant-stages (next w g) (invariant-next w i g) gs

  outs-stages : (w : World) → Invariant seat stakes w → (ss : List Stage) → Every (Sends (members_of seat stakes)) (outs_of w ss)
  unfolding outs_of
  outs-stages w i [] = none
  outs-stages w i (g ∷ gs) = every_append (invariant-step w i g.event).outs (outs-stages (next w g) (invariant-next w i g) gs)

-- ---- courses

module _ (r : Course) where
  -- the committee that START left
  abbrev pub committee_of : List ℕ
  committee_of = committee (origin r)

  start-well : Well (origin r).seat (origin r).stakes (step_on r.lent r.start)
  start-well = let h = invariant-start r.lent r.start r.begun in rw (← h.world.seated, ← h.world.staked) at h

  -- The invariant holds of the world that a course leaves, with the seat and the stakes that START left. A course as far as any of its stages is a course, so it holds
  -- all along.
  pub invariant-course : Invariant (origin r).seat (origin r).stakes (end r)
  invariant-course = invariant-stages (origin r) start-well.world r.stages

  -- The signers of the high QC that a course leaves are members of its committee.
  pub high-signers : (p : ℕ) → is_in (words (end r).state.core.high_qc.signers) p ≡ 1 → p < length (committee (origin r))
  high-signers p h = cases invariant-course.state.high
    where
      cases : Backed (committee (origin r)) unknown (end r).state.core.high_qc → p < length (committee (origin r))
      cases (first e) = absurd (omega (arith, signer-none p, rw e at h))
      cases (backed q s) = stake-member (committee (origin r)) p (q.members p h).stake

  -- Every QC and every TC that a course writes, laid out as a certificate with the result yes, passes the check of every replica of its committee.
  pub course-certificates : {a : Rec} → Written a (outputs r) → Sends (committee (origin r)) a
  course-certificates = every-written (Sends (committee (origin r))) (every_append start-well.outs (outs-stages (origin r) start-well.world r.stages))

-- ---- what tallies make

module _ (m : List ℕ) {g : Signatures} {s : State} (k : Kept m g s) (p : ℕ) (who : Known m p) where
  -- A QC that a tally of votes makes, laid out as a certificate with the result yes, passes the check.
  pub made-qc-accepted : (hash : Hash) (round : ℕ) {i : ℕ} {q : Signers} → vote_added s.votes round hash p (stake_of m p) (quorum_of m) ≡ quorum_at i q
      → qc_check m (quorum_of m) (qc_bytes (qc_of hash round q)) ≡ Ok q
  made-qc-accepted hash round {q = q} e = quorate-qc m (qc_of hash round q) (vote-quorate m g k p who hash round e)

  -- A TC that a tally of timeouts makes, likewise, with the high rounds of its row.
  pub made-tc-accepted : (round high : ℕ) (highs : List ℕ) {i : ℕ} {q : Signers} → timeout_added s.timeouts round p (stake_of m p) (quorum_of m) ≡ quorum_at i q
      → GoodTC m round q.0 highs
  made-tc-accepted round high highs {q = q} e = quorate-tc m round q highs (timeout-quorate m g k p who round high e)
