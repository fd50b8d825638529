-- What an event gives, by its kind, from a world that counts as started; w is the world before the event e, `step_on w e` what it gives. Assumes nothing.
--     Brings w e, brings      a VOTE, a COMMIT and a stored block come from a PROPOSE that passes its checks, or from a LOOPBACK that is taken
--     passed-high             after a PROPOSE that passes its checks the high QC is not below the block's QC, also where it waits (2, 3)
--     passed-qc, passed-tc    its QC and its TC were accepted
use Prim.Native.Nat.{ℕ, suc, ◌≤◌}
use mathlib.Core.Bool.{Bool, true, false, cond}
use mathlib.Core.List.{List, [], ◌∷◌}
use mathlib.Core.Path.{◌≡◌, refl, ◌∙◌}
use native.Mathlib.Nat.{le_trans}
use native.Mathlib.Omega.{arith}
use borrow.Author.Tests.{eqb-true, eqb-false}
use lib.Dec.{eqb, ltb}
use lib.ListN.{length}
use Rattle.std.specs.Prelude.{Some, Ok}
use Rattle.certificates.specs.declared.numbers.Hash.{Hash}
use Rattle.certificates.specs.declared.numbers.Signers.{Signers}
use Rattle.certificates.specs.declared.numbers.Stake.{Stake}
use Rattle.certificates.specs.Config.{quorum_from, quorum_of}
use Rattle.certificates.specs.Messages.{embedded_check, tc_check}
use Rattle.certificates.specs.Numbers.{round_max}
use Rattle.certificates.specs.Error.{round_too_high, qc_requires_quorum, tc_requires_quorum}
use Rattle.certificates.proofs.ErrorLaws.{number-accepted}
use Rattle.trace.specs.declared.events.Kind.{Kind}
use Rattle.trace.specs.declared.events.Block.{Block}
use Rattle.trace.specs.declared.events.BlockTc.{BlockTc}
use Rattle.trace.specs.Form.{form_of}
use Rattle.trace.specs.Limits.{limit_of}
use Rattle.trace.specs.Fields.{vote_of, timeout_of, block_of}
use Rattle.trace.specs.Layout.{block_qc, tc_body, tc_round, qc_part, tc_part, payload_of}
use Rattle.outputs.specs.Records.{Rec, vote, timeout, timer_reset}
use Rattle.moves.specs.State.{State}
use Rattle.moves.specs.Outcome.{Step, after, refused}
use Rattle.moves.specs.Moves.{taken_qc}
use Rattle.moves.specs.Tallied.{qc_of}
use Rattle.moves.proofs.MoveLaws.{taken-keeps}
use Rattle.handlers.specs.Sound.{signers_of}
use Rattle.handlers.specs.Timeouts.{ticked, own_timeout, handled_tick}
use Rattle.handlers.specs.Proposals.{qc_found, tc_number, proposal_check, taken, by_payload}
use Rattle.handlers.proofs.ProposalTheorems.{checks-passed, proposal-takes, proposal-refused, advanced-tc-keeps, certificates-keep}
use Rattle.replica.specs.Started.{roomy}
use Rattle.replica.specs.Blocks.{processed, going_on, going_on_table}
use Rattle.replica.specs.Step.{World, Result, refused_in, committee, handled, stepped}
use Rattle.replica.proofs.StartedLaws.{Ready, started-ready}
use Rattle.runs.specs.Runs.{Event, step_on, Written, only, is_signed, signed_in, delivered_in, high_of}
use Rattle.runs.specs.Passed.{Passed, Looped}
use Rattle.runs.proofs.Lists.{written-only, written_none, written_one}
use Rattle.runs.proofs.Plain.{high_in, Silent, plain-vote, plain-timeout, plain-tc, plain-own-timeout}
use Rattle.runs.proofs.Blocks.{taken-high, treats-processed}
use Rattle.runs.proofs.Steps.{Started, Gives, formless, again, roomless, limited, gives, step_is}

-- ---- an event that passes its checks

module _ (w : World) (e : Event) (t : Stake) (s : Started w t) where
  pub passed_is : Passed w e → step_on w e ≡ handled w e.bytes Kind.Propose
  unfolding stepped
  passed_is p = rw (p.kind, s, p.room, p.limits) refl

-- ---- what votes, commits and stores

-- no VOTE, no COMMIT, and the table is as it was
pub record Idle (w : World) (x : Result) : Type 0 where
  pub votes : {to n : ℕ} {h : Hash} → Written (vote to h n) x.outs → ⊥
  pub commits : delivered_in x.outs ≡ []
  pub table : x.world.table ≡ w.table

pub data Brings (w : World) (e : Event) : Type 0 where
  proposes : Passed w e → Brings w e
  loops : Looped w e → Brings w e
  idles : Idle w (step_on w e) → Brings w e

silent-votes : {outs : List Rec} {to n : ℕ} {h : Hash} → Silent outs → Written (vote to h n) outs → ⊥
silent-votes k v = written_none (rw k.signs at (written-only is_signed refl v))

idle-silent : (w : World) (x : Result) → Silent x.outs → x.world.table ≡ w.table → Idle w x
idle-silent w x k e = record { votes = silent-votes k; commits = k.delivers; table = e }

idle-refused : (n : ℕ) (w : World) → Idle w (refused_in n w)
unfolding only
idle-refused n w = idle-silent w (refused_in n w) (record { signs = refl; delivers = refl }) refl

idle-ticked : (m : List ℕ) (own : ℕ) (s : State) → let x = (after (ticked s) (own_timeout m own)).left.outs in
    ((to n : ℕ) (h : Hash) → Written (vote to h n) x → ⊥) × (delivered_in x ≡ [])
unfolding only
idle-ticked m own s =
    let rest = (own_timeout m own (ticked s).state).left.outs in
    let p = (plain-own-timeout m own (ticked s).state).silent in
    let c = s.core in
    let one : signed_in (timer_reset ∷ timeout c.round.0 c.high_qc ∷ rest) ≡ timeout c.round.0 c.high_qc ∷ [] = rw p.signs in (
      (λ to n h v.
          let same : vote to h n ≡ timeout c.round.0 c.high_qc = written_one (rw one at (written-only is_signed refl v)) in
          let z : ◌≡◌ {A = ℕ} 0 1 = cc in
          omega arith),
      p.delivers,
    )

idle-tick : (w : World) (r : List ℕ) → Idle w (handled w r Kind.Tick)
unfolding handled_tick
idle-tick w r = cases (ltb round_max w.state.core.round.0)
  where
    cases : (b : Bool) → Idle w (record {
      answer = (cond b (refused round_too_high w.state) (after (ticked w.state) (own_timeout (committee w) w.seat.own.0))).answer;
      world = record { seat = w.seat; stakes = w.stakes; state = (cond b (refused round_too_high w.state) (after (ticked w.state) (own_timeout (committee w) w.seat.own.0))).left.state; table = w.table };
      outs = (cond b (refused round_too_high w.state) (after (ticked w.state) (own_timeout (committee w) w.seat.own.0))).left.outs;
    })
    cases true = let k = idle-refused 0 w in record { votes = k.votes; commits = k.commits; table = refl }
    cases false = let k = idle-ticked (committee w) w.seat.own.0 w.state in record { votes = λ {to} {n} {h} v. k.0 to n h v; commits = k.1; table = refl }

idle-proposed : (w : World) (r : List ℕ) → (proposal_check (committee w) (block_of r) r (qc_found (committee w) r) ≡ 0 → ⊥) → Idle w (handled w r Kind.Propose)
unfolding going_on going_on_table
idle-proposed w r h =
    rw (proposal-refused (committee w) w.state (block_of r) r (payload_of r) h)
    (let k = idle-refused 0 w in record { votes = k.votes; commits = k.commits; table = refl })

module _ (w : World) (e : Event) (t : Stake) (s : Started w t) where
  abbrev check_of : ℕ
  check_of = proposal_check (committee w) (block_of e.bytes) e.bytes (qc_found (committee w) e.bytes)

  by-propose : form_of e.bytes ≡ Some Kind.Propose → roomy (length w.table) e.room ≡ true → limit_of e.bytes Kind.Propose ≡ 0 → step_on w e ≡ handled w e.bytes Kind.Propose
      → (c : Bool) → eqb check_of 0 ≡ c → Brings w e
  by-propose f x y g true z = proposes (record { kind = f; room = x; limits = y; checks = eqb-true _ 0 z })
  by-propose f x y g false z = idles (rw g (idle-proposed w e.bytes (eqb-false _ 0 z)))

  by-handled : (k : Kind) → form_of e.bytes ≡ Some k → roomy (length w.table) e.room ≡ true → limit_of e.bytes k ≡ 0 → step_on w e ≡ handled w e.bytes k → Brings w e
  by-handled Kind.Start f x y g = idles (rw g (idle-refused _ w))
  by-handled Kind.Propose f x y g = by-propose f x y g (eqb check_of 0) refl
  by-handled Kind.Vote f x y g = idles (rw g (idle-silent w (handled w e.bytes Kind.Vote) (plain-vote (committee w) w.seat.own.0 w.state (vote_of e.bytes)).silent refl))
  by-handled Kind.Timeout f x y g =
      idles (rw g (idle-silent w (handled w e.bytes Kind.Timeout) (plain-timeout (committee w) w.seat.own.0 w.state (timeout_of e.bytes) e.bytes).silent refl))
  by-handled Kind.Tc f x y g =
      idles (rw g (idle-silent w (handled w e.bytes Kind.Tc) (plain-tc (committee w) w.seat.own.0 w.state (tc_round e.bytes tc_body) e.bytes).silent refl))
  by-handled Kind.Loopback f x y g = loops (record { kind = f; room = x; limits = y })
  by-handled Kind.Tick f x y g = idles (rw g (idle-tick w e.bytes))

  -- What votes, commits or stores is a PROPOSE that passes its checks, or a LOOPBACK that is taken.
  pub brings : Brings w e
  brings = cases (step_is w e t s)
    where
      cases : Gives w e (form_of e.bytes) (step_on w e) → Brings w e
      cases (formless g) = idles (rw g (idle-refused _ w))
      cases (again g) = idles (rw g (idle-refused _ w))
      cases (roomless g) = idles (rw g (idle-refused _ w))
      cases (limited i h g) = idles (rw g (idle-refused _ w))
      cases (gives i h x y g) = by-handled i h x y g

-- ---- a PROPOSE that passes its checks

module _ (w : World) (e : Event) (t : Stake) (s : Started w t) (p : Passed w e) where
  abbrev m : List ℕ
  m = committee w

  abbrev b : Block
  b = block_of e.bytes

  abbrev r : List ℕ
  r = e.bytes

  ready : Ready w.seat w.stakes w.state.votes w.state.timeouts t
  ready = started-ready w.seat w.stakes w.state.votes w.state.timeouts t s

  low : quorum_of m ≤ suc t.0
  unfolding quorum_of quorum_from
  low = omega (arith, ready.total)

  certificates-high : b.qc_round.0 ≤ high_in (taken w.state b (signers_of (qc_found m r))).state.core
  unfolding taken
  certificates-high =
      let q = qc_of b.qc_hash b.qc_round.0 (signers_of (qc_found m r)) in
      let k = taken-keeps 0 w.state ready.sound.long ready.sound.wide q in
      le_trans (taken-high w.state q) (advanced-tc-keeps 0 (taken_qc w.state q).state (k.votes ∙ ready.sound.long) (k.timeouts ∙ ready.sound.wide) b).high

  -- The high QC is then not below the block's QC, whatever becomes of the block.
  pub passed-high : b.qc_round.0 ≤ high_of (step_on w e).world
  unfolding going_on by_payload
  passed-high =
      rw (passed_is w e t s p, proposal-takes m w.state b r (payload_of r) p.checks) (cases (eqb (payload_of r) 1))
    where
      a : Step
      a = taken w.state b (signers_of (qc_found m r))

      cases : (u : Bool) → b.qc_round.0 ≤ high_in (cond u (after a (processed m w.seat.own.0 w.table b)) (by_payload (payload_of r) a).out).left.state.core
      cases true =
          let k = certificates-keep 0 w.state ready.sound.long ready.sound.wide b (signers_of (qc_found m r)) in
          le_trans certificates-high
          (treats-processed t.0 m w.seat.own.0 low b w.table 0 a.state (omega arith) (k.votes ∙ ready.sound.long) (k.timeouts ∙ ready.sound.wide)).stays.high
      cases false = certificates-high

  pub passed-qc : (q : Signers) × (embedded_check m (quorum_of m) (qc_part r block_qc) ≡ Ok q)
  passed-qc = number-accepted (qc_found m r) qc_requires_quorum (λ z. omega arith) (checks-passed m b r (qc_found m r) p.checks).qc

  pub passed-tc : {k : BlockTc} → b.tc ≡ Some k → (q : Signers) × (tc_check m (quorum_of m) (tc_part r k.at) ≡ Ok q)
  unfolding tc_number
  passed-tc {k} h =
      number-accepted (tc_check m (quorum_of m) (tc_part r k.at)) tc_requires_quorum (λ z. omega arith)
      (rw h at (checks-passed m b r (qc_found m r) p.checks).tc)
