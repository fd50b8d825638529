-- A law for each way out of the functions of `stages`. Assumes nothing.
use Prim.Native.Nat.{ℕ, ◌+◌, ◌-◌, ◌≤◌}
use mathlib.Core.Bool.{Bool, true, false, cond}
use mathlib.Core.List.{List}
use mathlib.Core.Path.{◌≡◌, refl, sym, ◌∙◌, ap}
use native.Mathlib.Omega.{arith}
use borrow.Author.Tests.{ne_eqb}
use lib.ListN.{length, take, drop}
use Rattle.std.specs.Prelude.{Option, None, Some, Ok, Err, is_ok}
use Rattle.std.specs.Prelude as std
use Rattle.certificates.specs.declared.error.Refusal.{Refusal}
use Rattle.certificates.specs.declared.error.Refusal.TheVariants as refusal
use Rattle.certificates.proofs.ErrorLaws.{code-some}
use Rattle.handlers.proofs.HandlerLaws.{answer-no, answer-yes}
use Rattle.certificates.specs.Config.{quorum_from, quorum_of}
use Rattle.certificates.specs.Start.{member_count, own_place, setup_at, loaded_stakes}
use Rattle.certificates.proofs.ConfigLaws.{quorum-total}
use Rattle.certificates.proofs.StartLaws.{started as start_of_lem, length-loaded}
use Rattle.certificates.specs.Error.{code, number, no_room}
use Rattle.certificates.specs.declared.numbers.Place.{Place}
use Rattle.certificates.specs.declared.numbers.Stake.{Stake}
use Rattle.trace.specs.declared.events.Kind.{Kind}
use Rattle.trace.specs.declared.events.Vote.{Vote}
use Rattle.trace.specs.declared.events.Timeout.{Timeout}
use Rattle.trace.specs.declared.events.Block.{Block}
use Rattle.trace.specs.Form.{form_of}
use Rattle.trace.specs.Limits.{limit_of}
use Rattle.trace.specs.Fields.{TcWithin, vote_of, timeout_of, block_of}
use Rattle.certificates.specs.Numbers.{round_max}
use Rattle.trace.specs.Layout.{tc_body, tc_round, payload_of}
use Rattle.aggregator.specs.Tallies.{votes_length, timeouts_length}
use Rattle.outputs.specs.Put.{Put, Wrote}
use Rattle.outputs.proofs.Wrote.{wrote_one, wrote_then, wrote-more}
use Rattle.outputs.specs.Records.{timer_reset, enc, make_size}
use Rattle.moves.specs.declared.state.Core.{Core}
use Rattle.moves.specs.declared.state.Ran.{Ran}
use Rattle.moves.specs.State.{whole, with_committed}
use Rattle.moves.specs.Outcome.{Outcome, refused, Reached}
use Rattle.moves.specs.Moves.{make_of, certify_most}
use Rattle.moves.proofs.Outcomes.{did-quiet, did_more}
use Rattle.handlers.specs.Sound.{Sound}
use Rattle.trace.proofs.LimitLaws.{loopback-limit, vote-round-le, timeout-round-le, timeout-qc-round-le, tc-event-round-le, block-round-le, block-qc-round-le, block-tc-round-le}
use Rattle.aggregator.specs.Rows.{zeros}
use Rattle.handlers.proofs.ProposalTheorems.{proposal-goes-on, taken-sound}
use Rattle.handlers.specs.Votes.{handled_vote, voting, voting_most}
use Rattle.handlers.specs.Timeouts.{handled_timeout, handled_tc, handled_tick}
use Rattle.handlers.specs.Proposals.{proposal_of, Proposes}
use Rattle.replica.specs.declared.started.Seat.{Seat}
use Rattle.replica.specs.declared.stages.Handed.{Handed}
use Rattle.replica.specs.declared.stages.Begun.{Begun}
use Rattle.replica.specs.declared.stages.Does.{Does}
use Rattle.replica.specs.declared.stages.Stepped.{Stepped}
use Rattle.replica.specs.Started.{members_of, sized, started_of, roomy}
use Rattle.replica.specs.Step.{new_core, new_seat, new_stakes, announced, announced_most}
use Rattle.replica.specs.Stages.{Stage, ended, alone, handled_in, ready_in, Filled, Boots, booted_by, booting_of, started_in, is_start, staged_of, finished_of, is_block, early_begun, ran_handed, handed_begun, first_most, Handles, Ongoing, Begins, Finishes}
use Rattle.replica.proofs.StartedLaws.{started-ready, sized-has, members-part}
use Rattle.replica.proofs.StepLaws.{roomy-has}

-- ---- a refusal before anything is done

module _ (seat : Seat) (stakes : List ℕ) (core : Core) (votes timeouts r out : List ℕ) where
  pub begins-early : (room : Bool) (n : Refusal) {b : Begun} → b ≡ early_begun seat core n
      → Begins (ended seat stakes (refused (code n) (whole core votes timeouts))) room r out b stakes votes timeouts out
  begins-early room n e =
      rw e
      record {
        does = refl;
        sits = refl;
        held = refl;
        answer = refl;
        did = did-quiet first_most core votes timeouts out 0;
        fits = omega arith;
        going = λ (h : Does.Nothing ≡ Does.Block). absurd (let z : ◌≡◌ {A = ℕ} 0 1 = cc in omega arith);
      }

  module _ (room : Bool) where
    -- ---- the order of refusals

    module _ {f : Option Kind} (e : f ≡ form_of r) where
      pub begin-bad : {b : Begun} → f ≡ None → b ≡ early_begun seat core refusal.BadRecord
          → Begins (staged_of seat stakes (whole core votes timeouts) room r) room r out b stakes votes timeouts out
      unfolding staged_of
      begin-bad h i = rw (← e, h) (begins-early room refusal.BadRecord i)

      module _ {k : Kind} (good : f ≡ Some k) {st : Option Stake} (s : st ≡ started_of seat stakes votes timeouts) {first : Bool} (g : first ≡ is_start k) where
        pub begin-start : {b : Begun} {stakes' votes' timeouts' out' : List ℕ} → st ≡ None → first ≡ true
            → Begins (started_in seat stakes (whole core votes timeouts) room r) room r out b stakes' votes' timeouts' out'
            → Begins (staged_of seat stakes (whole core votes timeouts) room r) room r out b stakes' votes' timeouts' out'
        unfolding staged_of
        begin-start h i p = rw (← e, good, ← s, h, ← g, i) p

        pub begin-not-started : {b : Begun} → st ≡ None → first ≡ false → b ≡ early_begun seat core refusal.NotStarted
            → Begins (staged_of seat stakes (whole core votes timeouts) room r) room r out b stakes votes timeouts out
        unfolding staged_of
        begin-not-started h i p = rw (← e, good, ← s, h, ← g, i) (begins-early room refusal.NotStarted p)

        pub begin-again : {t : Stake} {b : Begun} → st ≡ Some t → first ≡ true → b ≡ early_begun seat core refusal.StartedAgain
            → Begins (staged_of seat stakes (whole core votes timeouts) room r) room r out b stakes votes timeouts out
        unfolding staged_of
        begin-again h i p = rw (← e, good, ← s, h, ← g, i) (begins-early room refusal.StartedAgain p)

        pub begin-ready : {t : Stake} {b : Begun} {votes' timeouts' out' : List ℕ} → st ≡ Some t → first ≡ false
            → Begins (ready_in seat stakes (whole core votes timeouts) room r k) room r out b stakes votes' timeouts' out'
            → Begins (staged_of seat stakes (whole core votes timeouts) room r) room r out b stakes votes' timeouts' out'
        unfolding staged_of
        begin-ready h i p = rw (← e, good, ← s, h, ← g, i) p

  module _ (slots : ℕ) {t : Bool} (e : t ≡ roomy slots (length out)) where
    abbrev roomful : Bool
    roomful = roomy slots (length out)

    -- ---- an event of a started replica

    module _ (k : Kind) where
      pub ready-no-room : {b : Begun} → t ≡ false → b ≡ early_begun seat core refusal.NoRoom
          → Begins (ready_in seat stakes (whole core votes timeouts) roomful r k) roomful r out b stakes votes timeouts out
      unfolding ready_in
      ready-no-room h i = rw (← e, h) (begins-early false refusal.NoRoom i)

      module _ {limit : std.Result Unit Refusal} (l : number limit ≡ limit_of r k) where
        pub ready-limited : {b : Begun} {n : Refusal} → t ≡ true → limit ≡ Err n → b ≡ early_begun seat core n
            → Begins (ready_in seat stakes (whole core votes timeouts) roomful r k) roomful r out b stakes votes timeouts out
        unfolding ready_in
        ready-limited {n = n} h i j =
            rw (← e, h, ← answer-no l i, ne_eqb (code n) 0 (code-some n)) (begins-early true n j)

        module _ {total need : Stake} (s : started_of seat stakes votes timeouts ≡ Some total) (q : need.0 ≡ quorum_from total.0) where
          pub ready-handled : {m : List ℕ} {b : Begun} {x : Handed} {votes' timeouts' out' : List ℕ} {u : Unit} → t ≡ true → limit ≡ Ok u → m ≡ members_of seat stakes
              → Handles (handled_in m seat.own.0 (whole core votes timeouts) r k) m seat.own.0 r out x votes' timeouts' out'
              → b ≡ handed_begun seat need x
              → Begins (ready_in seat stakes (whole core votes timeouts) roomful r k) roomful r out b stakes votes' timeouts' out'
          unfolding ready_in
          ready-handled {x = x} h n w p i =
              let y = started-ready seat stakes votes timeouts total s in
              let z = rw w at p in
              rw (← e, h, answer-yes l n, i)
              record {
                does = z.does;
                sits = refl;
                held = refl;
                answer = z.answer;
                did = z.did;
                fits = omega (arith, z.did.bytes.room, roomy-has slots (length out) (sym e ∙ h));
                going = λ (g : x.does ≡ Does.Block). (refl, record { few = y.count; need = quorum-total (members_of seat stakes) y.total q; going = z.going g });
              }

          -- what `handle` asks for
          pub handle-needs : {m : List ℕ} {u : Unit} → t ≡ true → limit ≡ Ok u → m ≡ members_of seat stakes
              → Sound m seat.own.0 votes timeouts × (limit_of r k ≡ 0) × (first_most ≤ length out)
          handle-needs h n w =
              let y = started-ready seat stakes votes timeouts total s in
              (rw w y.sound, answer-yes l n, omega (arith, roomy-has slots (length out) (sym e ∙ h)))

-- the quorum of a committee that started
pub quorum-ready : (seat : Seat) (stakes votes timeouts : List ℕ) {total need : Stake} → started_of seat stakes votes timeouts ≡ Some total → need.0 ≡ quorum_from total.0
    → {m : List ℕ} → m ≡ members_of seat stakes → need.0 ≡ quorum_of m
quorum-ready seat stakes votes timeouts {total} s q w =
    rw w (quorum-total (members_of seat stakes) (started-ready seat stakes votes timeouts total s).total q)

-- ---- the handlers, by the kind of the record

module _ (m : List ℕ) (own : ℕ) (core : Core) (votes timeouts r out : List ℕ) where
  handed-early : (n : Refusal)
      → Handles (alone (refused (code n) (whole core votes timeouts))) m own r out (record { answer = Err n; core = core; at = 0; does = Does.Nothing }) votes timeouts out
  handed-early n =
      record { does = refl; answer = refl; did = did-quiet first_most core votes timeouts out 0; going = λ (h : Does.Nothing ≡ Does.Block). absurd (let z : ◌≡◌ {A = ℕ} 0 1 = cc in omega arith) }

  pub handle-start : {k : Kind} → k ≡ Kind.Start
      → Handles (handled_in m own (whole core votes timeouts) r k) m own r out (record { answer = Err refusal.StartedAgain; core = core; at = 0; does = Does.Nothing }) votes timeouts out
  handle-start e = rw e (handed-early refusal.StartedAgain)

  -- what a handler reached that ends before the table
  handed-ran : {n : ℕ} {o : Outcome} {x : Ran} {h : Handed} {votes' timeouts' out' : List ℕ} → Reached n o out 0 x votes' timeouts' out' → n ≤ first_most → h ≡ ran_handed x
      → Handles (alone o) m own r out h votes' timeouts' out'
  handed-ran p l i =
      rw i (record { does = refl; answer = p.answer; did = did_more p.did l; going = λ (h : Does.Nothing ≡ Does.Block). absurd (let z : ◌≡◌ {A = ℕ} 0 1 = cc in omega arith) })

  module _ {k : Kind} {x : Ran} {h : Handed} {votes' timeouts' out' : List ℕ} (i : h ≡ ran_handed x) where
    pub handle-vote : {v : Vote} → k ≡ Kind.Vote → v ≡ vote_of r → Reached certify_most (handled_vote m own (whole core votes timeouts) v) out 0 x votes' timeouts' out'
        → Handles (handled_in m own (whole core votes timeouts) r k) m own r out h votes' timeouts' out'
    handle-vote e f p = rw e (handed-ran (rw f at p) (omega arith) i)

    pub handle-timeout : {t : Timeout} → k ≡ Kind.Timeout → t ≡ timeout_of r → Reached 1373 (handled_timeout m own (whole core votes timeouts) t r) out 0 x votes' timeouts' out'
        → Handles (handled_in m own (whole core votes timeouts) r k) m own r out h votes' timeouts' out'
    handle-timeout e f p = rw e (handed-ran (rw f at p) (omega arith) i)

    pub handle-tc : {round : ℕ} → k ≡ Kind.Tc → round ≡ tc_round r tc_body → Reached 715 (handled_tc m own (whole core votes timeouts) round r) out 0 x votes' timeouts' out'
        → Handles (handled_in m own (whole core votes timeouts) r k) m own r out h votes' timeouts' out'
    handle-tc e f p = rw e (handed-ran (rw f at p) (omega arith) i)

    pub handle-tick : k ≡ Kind.Tick → Reached 1433 (handled_tick m own (whole core votes timeouts)) out 0 x votes' timeouts' out'
        → Handles (handled_in m own (whole core votes timeouts) r k) m own r out h votes' timeouts' out'
    handle-tick e p = rw e (handed-ran p (omega arith) i)

  pub handle-propose : {k : Kind} {h : Handed} {votes' timeouts' out' : List ℕ} → k ≡ Kind.Propose
      → Handles (handled_in m own (whole core votes timeouts) r Kind.Propose) m own r out h votes' timeouts' out'
      → Handles (handled_in m own (whole core votes timeouts) r k) m own r out h votes' timeouts' out'
  handle-propose e p = rw e p

-- ---- the last part

not-block : (d : Does) → (d ≡ Does.Block → ⊥) → is_block d ≡ false
not-block Does.Nothing n = refl
not-block Does.Clear n = refl
not-block Does.Block n = absurd (n refl)

module _ (m : List ℕ) (own : ℕ) (core : Core) (votes timeouts : List ℕ) (b : Block) (first : ℕ) (seat : Seat) (does : Does) (answer : std.Result Unit Refusal) (last : ℕ) where
  pub finish-votes : {at : ℕ} {out votes' timeouts' out' : List ℕ} {x : Stepped} {u : Unit} → does ≡ Does.Block → answer ≡ Ok u
      → Finishes (voting m own b (whole (with_committed core last) votes timeouts)) voting_most seat out at x votes' timeouts' out'
      → Finishes (finished_of m own (whole core votes timeouts) does first (number answer) last b) voting_most seat out at x votes' timeouts' out'
  unfolding finished_of
  finish-votes e f p = rw (e, f) p

  pub finish-refused : {at : ℕ} {out : List ℕ} {r : Refusal} → does ≡ Does.Block → answer ≡ Err r
      → Finishes (finished_of m own (whole core votes timeouts) does first (number answer) last b) voting_most seat out at
      (record { answer = Err r; seat = seat; core = with_committed core last; written = at }) votes timeouts out
  unfolding finished_of
  finish-refused {at} {out} {r} e f =
      rw (e, f, ne_eqb (code r) 0 (code-some r)) (record { answer = refl; sits = refl; did = did-quiet voting_most (with_committed core last) votes timeouts out at })

pub finish-ended : (m : List ℕ) (own : ℕ) (core : Core) (votes timeouts : List ℕ) (b : Block) (first : std.Result Unit Refusal) (seat : Seat) (does : Does) (answer last : ℕ) {at : ℕ} {out : List ℕ}
    → (does ≡ Does.Block → ⊥)
    → Finishes (finished_of m own (whole core votes timeouts) does (number first) answer last b) voting_most seat out at
    (record { answer = first; seat = seat; core = core; written = at }) votes timeouts out
unfolding finished_of
finish-ended m own core votes timeouts b first seat does answer last {at} {out} e =
    rw (not-block does e) (record { answer = refl; sits = refl; did = did-quiet voting_most core votes timeouts out at })

-- ---- a proposal

module _ (m : List ℕ) (own : ℕ) (core : Core) (votes timeouts r out : List ℕ) {b : Block} {payload : ℕ} (f : b ≡ block_of r) (g : payload ≡ payload_of r)
    {p : Ran} {votes' timeouts' out' : List ℕ} (x : Proposes 8 (proposal_of m (whole core votes timeouts) b r payload) out 0 p votes' timeouts' out') where
  pub propose-ends : is_ok p.answer ≡ false
      → Handles (handled_in m own (whole core votes timeouts) r Kind.Propose) m own r out (record { answer = p.answer; core = p.core; at = p.at; does = Does.Nothing }) votes' timeouts' out'
  propose-ends h =
      let y = rw (f, g) at x in
      record {
        does = rw (← y.goes, h);
        answer = y.answer;
        did = did_more y.did (omega arith);
        going = λ (z : Does.Nothing ≡ Does.Block). absurd (let y : ◌≡◌ {A = ℕ} 0 1 = cc in omega arith);
      }

  pub propose-goes : is_ok p.answer ≡ true → Sound m own votes timeouts → limit_of r Kind.Propose ≡ 0
      → Handles (handled_in m own (whole core votes timeouts) r Kind.Propose) m own r out (record { answer = p.answer; core = p.core; at = p.at; does = Does.Block }) votes' timeouts' out'
  propose-goes h s l =
      let y = rw (f, g) at x in
      record {
        does = rw (← y.goes, h);
        answer = y.answer;
        did = did_more y.did (omega arith);
        going =
            λ (z : Does.Block ≡ Does.Block).
            record {
              sound =
                  taken-sound core (block_of r) _ s
                  (y.did.state ∙ ap (λ (o : Outcome). o.left.state) (proposal-goes-on m (whole core votes timeouts) (block_of r) r (payload_of r) (sym y.goes ∙ h)));
              round = block-round-le r l;
              qc_round = block-qc-round-le r l;
              tc_round = block-tc-round-le r l;
              short = omega (arith, y.did.bytes.room);
            };
      }

-- a block that comes back
module _ (m : List ℕ) (own : ℕ) (core : Core) (votes timeouts r out : List ℕ) where
  pub handle-loopback : {k : Kind} → k ≡ Kind.Loopback → Sound m own votes timeouts → limit_of r k ≡ 0
      → Handles (handled_in m own (whole core votes timeouts) r k) m own r out (record { answer = Ok tt; core = core; at = 0; does = Does.Block }) votes timeouts out
  handle-loopback e s l =
      let n = loopback-limit r (rw e at l) in
      rw e
      record {
        does = refl;
        answer = refl;
        did = did-quiet first_most core votes timeouts out 0;
        going =
            λ (z : Does.Block ≡ Does.Block).
            record { sound = s; round = block-round-le r n; qc_round = block-qc-round-le r n; tc_round = block-tc-round-le r n; short = omega arith };
      }

-- ---- START, once its setup is good

-- TIMER RESET, and what the own place is asked to make
pub announce-wrote : (m : List ℕ) (own : ℕ) (core : Core) {out out₁ out₂ : List ℕ} {a next : ℕ} → Put out 0 4 (enc timer_reset) out₁ a
    → Wrote make_size (make_of m own core) out₁ a out₂ next → Wrote announced_most (announced m own core) out 0 out₂ next
unfolding announced
announce-wrote m own core p w = wrote_then (wrote_one timer_reset p) w

-- the new committee lies within the stakes
pub boot-fits : (r stakes votes timeouts stakes' votes' timeouts' : List ℕ) (out : ℕ) {total : Stake} {seat : Seat}
    → Boots r (length stakes) (length votes) (length timeouts) out total → seat ≡ new_seat r → Filled r stakes votes timeouts stakes' votes' timeouts'
    → seat.count ≤ length stakes'
boot-fits r stakes votes timeouts stakes' votes' timeouts' out {total} {seat} k e f =
    let z = sized-has (length stakes) (length votes) (length timeouts) k.sizes in
    let n : length stakes' ≡ length stakes = ap length f.members ∙ length-loaded (length stakes) (drop 2 r) in
    let c : seat.count ≡ member_count (drop 2 r) = ap (λ (x : Seat). x.count) e in
    omega (arith, z.members, n, c, (start_of_lem (drop 2 r) total k.setup).few)

module _ (seat : Seat) (stakes : List ℕ) (core : Core) (votes timeouts r out : List ℕ) (total : Stake) where
  pub boots : {stakes' votes' timeouts' out' : List ℕ} {at : ℕ} {taken : Seat} {fresh : Core}
      → Boots r (length stakes) (length votes) (length timeouts) (length out) total → taken ≡ new_seat r
      → Filled r stakes votes timeouts stakes' votes' timeouts' → fresh ≡ new_core
      → Wrote announced_most (announced (take (taken.count - 0) (drop 0 stakes')) taken.own.0 fresh) out 0 out' at
      → Begins (booted_by seat stakes (whole core votes timeouts) r (Some total)) true r out
      (record { seat = taken; answer = Ok tt; core = fresh; at = at; does = Does.Clear; need = record { 0 = 0 } }) stakes' votes' timeouts' out'
  unfolding new_stakes
  boots {stakes' = stakes'} {taken = taken} b e f n w =
      let k = sized-has (length stakes) (length votes) (length timeouts) b.sizes in
      let held : stakes' ≡ new_stakes r = rw (f.members, k.members) in
      let same : take (taken.count - 0) (drop 0 stakes') ≡ members_of (new_seat r) (new_stakes r) = members-part taken stakes' ∙ rw (e, held) in
      record {
        does = refl;
        sits = e;
        held = held;
        answer = refl;
        did = record { state = rw (n, f.no-votes, f.no-timeouts, k.long, k.wide); bytes = wrote-more (rw e at (rw (same, n) at w)) (omega arith) };
        fits = omega (arith, w.room, b.room);
        going = λ (h : Does.Clear ≡ Does.Block). absurd (let z : ◌≡◌ {A = ℕ} 0 1 = cc in omega arith);
      }

-- ---- START

module _ (seat : Seat) (stakes : List ℕ) (core : Core) (votes timeouts r out : List ℕ) where
  abbrev booted_as : std.Result Stake Refusal → Stage
  booted_as (Ok t) = booted_by seat stakes (whole core votes timeouts) r (Some t)
  booted_as (Err n) = ended seat stakes (refused (code n) (whole core votes timeouts))

  booted-as : (room size : Bool) (st : Option Stake)
      → cond room (cond size (booted_by seat stakes (whole core votes timeouts) r st) (ended seat stakes (refused no_room (whole core votes timeouts)))) (ended seat stakes (refused no_room (whole core votes timeouts)))
      ≡ booted_as (booting_of room size st)
  unfolding booting_of
  booted-as false size st = refl
  booted-as true false st = refl
  booted-as true true None = refl
  booted-as true true (Some t) = refl

  module _ (slots : ℕ) {k : std.Result Stake Refusal} (e : k ≡ booting_of (roomy slots (length out)) (sized (length stakes) (length votes) (length timeouts)) (setup_at (drop 2 r))) where
    started-as : started_in seat stakes (whole core votes timeouts) (roomy slots (length out)) r ≡ booted_as k
    unfolding started_in
    started-as = booted-as (roomy slots (length out)) (sized (length stakes) (length votes) (length timeouts)) (setup_at (drop 2 r)) ∙ ap booted_as (sym e)

    pub start-refused : {b : Begun} {n : Refusal} → k ≡ Err n → b ≡ early_begun seat core n
        → Begins (started_in seat stakes (whole core votes timeouts) (roomy slots (length out)) r) (roomy slots (length out)) r out b stakes votes timeouts out
    start-refused {n = n} h i = rw (started-as, h) (begins-early seat stakes core votes timeouts r out (roomy slots (length out)) n i)

    -- what `boot` asks for
    booted-has : (room size : Bool) (st : Option Stake) (t : Stake) → booting_of room size st ≡ Ok t → (room ≡ true) × (size ≡ true) × (st ≡ Some t)
    unfolding booting_of
    booted-has true true (Some u) t h = (refl, refl, ap Some (let z : u ≡ t = cc in z))
    booted-has true true None t h = absurd (let z : ◌≡◌ {A = ℕ} 0 1 = cc in omega arith)
    booted-has true false st t h = absurd (let z : ◌≡◌ {A = ℕ} 0 1 = cc in omega arith)
    booted-has false size st t h = absurd (let z : ◌≡◌ {A = ℕ} 0 1 = cc in omega arith)

    pub start_has : {t : Stake} → k ≡ Ok t → (roomy slots (length out) ≡ true) × Boots r (length stakes) (length votes) (length timeouts) (length out) t
    start_has {t} h =
        let p = booted-has (roomy slots (length out)) (sized (length stakes) (length votes) (length timeouts)) (setup_at (drop 2 r)) t (sym e ∙ h) in
        (p.0, record { sizes = p.1; setup = p.2; room = omega (arith, roomy-has slots (length out) p.0) })

    pub boot-needs : {t : Stake} → k ≡ Ok t → Boots r (length stakes) (length votes) (length timeouts) (length out) t
    boot-needs h = (start_has h).1

    pub start-boots : {t : Stake} {b : Begun} {stakes' votes' timeouts' out' : List ℕ} → k ≡ Ok t
        → Begins (booted_by seat stakes (whole core votes timeouts) r (Some t)) true r out b stakes' votes' timeouts' out'
        → Begins (started_in seat stakes (whole core votes timeouts) (roomy slots (length out)) r) (roomy slots (length out)) r out b stakes' votes' timeouts' out'
    start-boots h p = rw (started-as, h, (start_has h).0) p

-- ---- START's parts

pub seat-new : (r : List ℕ) {body : List ℕ} {count : ℕ} {own : Place} → body ≡ drop 2 r → count ≡ member_count body → own.0 ≡ own_place body
    → ◌≡◌ {A = Seat} (record { count = count; own = own }) (new_seat r)
seat-new r {body} {count} {own} b c o =
    ap (λ (n : ℕ). record { count = n; own = own }) (c ∙ ap member_count b)
    ∙ ap (λ (p : ℕ). record { count = member_count (drop 2 r); own = record { 0 = p } }) (o ∙ ap own_place b)

pub filled : (r stakes votes timeouts : List ℕ) {body stakes' votes' timeouts' : List ℕ} → body ≡ drop 2 r → stakes' ≡ loaded_stakes (length stakes) body
    → votes' ≡ zeros (length votes) → timeouts' ≡ zeros (length timeouts) → Filled r stakes votes timeouts stakes' votes' timeouts'
filled r stakes votes timeouts b s v t = record { members = rw (← b) s; no-votes = v; no-timeouts = t }

-- ---- what the handlers ask for

module _ {m votes timeouts : List ℕ} {own : ℕ} (r : List ℕ) (out : ℕ) (s : Sound m own votes timeouts) (h : first_most ≤ out) where
  pub propose-needs : {b : Block} → b ≡ block_of r → limit_of r Kind.Propose ≡ 0
      → (b.qc_round.0 ≤ round_max) × TcWithin b.tc × (length votes ≡ votes_length) × (length timeouts ≡ timeouts_length) × (8 ≤ out)
  propose-needs e l = (rw e (block-qc-round-le r l), rw e (block-tc-round-le r l), s.long, s.wide, omega arith)

  module _ {k : Kind} (l : limit_of r k ≡ 0) where
    pub vote-needs : {v : Vote} → k ≡ Kind.Vote → v ≡ vote_of r → Sound m own votes timeouts × (v.round.0 ≤ round_max) × (certify_most ≤ out)
    vote-needs e f = (s, rw f (vote-round-le r (rw e at l)), omega arith)

    pub timeout-needs : {t : Timeout} → k ≡ Kind.Timeout → t ≡ timeout_of r
        → Sound m own votes timeouts × (t.round.0 ≤ round_max) × (t.qc_round.0 ≤ round_max) × (1373 ≤ out)
    timeout-needs e f = (s, rw f (timeout-round-le r (rw e at l)), rw f (timeout-qc-round-le r (rw e at l)), omega arith)

    pub tc-needs : {round : ℕ} → k ≡ Kind.Tc → round ≡ tc_round r tc_body → Sound m own votes timeouts × (round ≤ round_max) × (715 ≤ out)
    tc-needs e f = (s, rw f (tc-event-round-le r (rw e at l)), omega arith)

    pub propose-limit : k ≡ Kind.Propose → Sound m own votes timeouts × (limit_of r Kind.Propose ≡ 0) × (first_most ≤ out)
    propose-limit e = (s, rw e at l, h)

-- ---- the vote for a block that the table took

module _ (b : Begun) (r stakes : List ℕ) {votes timeouts : List ℕ} (o : Ongoing b r stakes votes timeouts) {k : Block} (e : k ≡ block_of r) where
  pub conclude-needs : (at : ℕ) {out : ℕ} → at + voting_most ≤ out
      → Sound (take (b.seat.count - 0) (drop 0 stakes)) b.seat.own.0 votes timeouts
      × (k.round.0 ≤ round_max) × (k.qc_round.0 ≤ round_max) × TcWithin k.tc × (at + voting_most ≤ out)
  conclude-needs at h =
      (rw (members-part b.seat stakes) o.going.sound, rw e o.going.round, rw e o.going.qc_round, rw e o.going.tc_round, h)

  pub conclude-fits : b.seat.count ≤ length stakes
  conclude-fits = o.few

  pub concludes : (core : Core) {at : ℕ} {out votes' timeouts' out' : List ℕ} {x : Ran}
      → Reached voting_most (voting (take (b.seat.count - 0) (drop 0 stakes)) b.seat.own.0 k (whole core votes timeouts)) out at x votes' timeouts' out'
      → Finishes (voting (members_of b.seat stakes) b.seat.own.0 (block_of r) (whole core votes timeouts)) voting_most b.seat out at
      (record { answer = x.answer; seat = b.seat; core = x.core; written = x.at }) votes' timeouts' out'
  concludes core p = let q = rw (members-part b.seat stakes, e) at p in record { answer = q.answer; sits = refl; did = q.did }

-- what `ready` asks for
pub ready-needs : (seat : Seat) (stakes votes timeouts : List ℕ) {st : Option Stake} {t : Stake} → st ≡ started_of seat stakes votes timeouts → st ≡ Some t
    → started_of seat stakes votes timeouts ≡ Some t
ready-needs seat stakes votes timeouts e h = sym e ∙ h
