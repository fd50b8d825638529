-- One event, from a world that counts as started. Assumes nothing.
--     step_in x                       the state and the records of a result
--     took_by k b                     the round that the high QC has reached when the block b of an event of kind k is voted for
--     Steps total w r k x             of the record r of kind k: members, stakes, own place and the table's length stay, and the state moves by the laws of `Lawful`
--     steps-refused, step-lawful      a refusal; any event
--     Gives w e k x, step_is          an event is refused by 16, 34, 18 or a limit, or gives what its kind k says
--     Started w t, started-again      the world counts as started with the total stake t; it does after any event
--     start-world, start-started      a START that was taken: the world that it leaves, which counts as started
--     start-silent                    .. and that it signs and delivers nothing
use Prim.Native.Nat.{ℕ, suc, ◌≤◌}
use mathlib.Core.Bool.{Bool, true, false, cond}
use mathlib.Core.List.{List}
use mathlib.Core.Path.{◌≡◌, refl, sym, ◌∙◌, ap}
use native.Mathlib.Omega.{arith}
use borrow.Author.Tests.{eq-eqb, eqb-true}
use lib.Dec.{eqb}
use lib.ListN.{length, drop, length-replicate}
use Rattle.std.specs.Prelude.{Option, None, Some}
use Rattle.certificates.specs.Config.{members_max, quorum_from, quorum_of, setup_of}
use Rattle.certificates.specs.Start.{setup_at, loaded_stakes}
use Rattle.certificates.specs.Error.{bad_record, no_room, started_again}
use Rattle.certificates.specs.declared.numbers.Stake.{Stake}
use Rattle.certificates.proofs.StartLaws as start
use Rattle.trace.specs.declared.events.Kind.{Kind}
use Rattle.trace.specs.declared.events.Block.{Block}
use Rattle.trace.specs.Form.{form_of}
use Rattle.trace.specs.Limits.{limit_of}
use Rattle.trace.specs.Fields.{vote_of, timeout_of, block_of}
use Rattle.trace.specs.Layout.{tc_body, tc_round, payload_of}
use Rattle.aggregator.specs.Tally.{vote_width, timeout_width}
use Rattle.aggregator.specs.Tallies.{vote_tallies, timeout_tallies, votes_length, timeouts_length, heavy, Light}
use Rattle.aggregator.proofs.Laws.{light-of, light-heavy, zeros-light}
use Rattle.synchronizer.specs.declared.table.Slot.{Slot}
use Rattle.synchronizer.specs.Table.{cleared}
use Rattle.synchronizer.proofs.SettleLaws.{settled-length}
use Rattle.moves.specs.State.{State}
use Rattle.moves.specs.Outcome.{Step}
use Rattle.moves.proofs.MoveLaws.{keeps-none}
use Rattle.handlers.specs.Proposals.{Proposal, proposal_of}
use Rattle.handlers.proofs.VoteTheorems.{vote-keeps}
use Rattle.replica.specs.declared.started.Seat.{Seat}
use Rattle.replica.specs.Started.{members_of, shaped, light_in, started_of, roomy}
use Rattle.replica.specs.Blocks.{work_for, settled_for, processed_table, going_on_table}
use Rattle.replica.specs.Step.{World, Result, refused_in, new_core, new_seat, new_stakes, new_state, start_outs, begun, begun_by, committee, handled, started, sized_in, on_start, on_other, on_kind, stepped}
use Rattle.replica.proofs.StartedLaws.{Ready, started-ready, sized-all, shaped-all}
use Rattle.runs.specs.Runs.{Event, step_on, Begun}
use Rattle.runs.proofs.Plain.{Silent, plain_quiet, plain-vote, plain-timeout, plain-tc, silent-announced}
use Rattle.runs.proofs.Lawful.{Stays, Lawful, lawful-plain}
use Rattle.runs.proofs.Voting.{timeout-keeps, tc-keeps, lawful-tick}
use Rattle.runs.proofs.Blocks.{treats-processed, treats-proposed, lawful-treats}

abbrev pub step_in : Result → Step
step_in x = record { state = x.world.state; outs = x.outs }

-- the round that the high QC has reached when a block of this kind of event is voted for
abbrev pub took_by : Option Kind → Block → ℕ
took_by None b = 0
took_by (Some Kind.Start) b = 0
took_by (Some Kind.Propose) b = b.qc_round.0
took_by (Some Kind.Vote) b = 0
took_by (Some Kind.Timeout) b = 0
took_by (Some Kind.Tc) b = 0
took_by (Some Kind.Loopback) b = 0
took_by (Some Kind.Tick) b = 0

pub record Steps (total : ℕ) (w : World) (r : List ℕ) (k : Option Kind) (x : Result) : Type 0 where
  pub seat : x.world.seat ≡ w.seat
  pub stakes : x.world.stakes ≡ w.stakes
  pub slots : length x.world.table ≡ length w.table
  pub lawful : Lawful total (block_of r) (took_by k (block_of r)) w.table x.world.table w.state (step_in x)

abbrev pub Started : World → Stake → Type 0
Started w t = started w ≡ Some t

-- ---- the handlers

steps-refused : (total n : ℕ) (w : World) (r : List ℕ) (k : Option Kind) → Steps total w r k (refused_in n w)
steps-refused total n w r k =
    record { seat = refl; stakes = refl; slots = refl; lawful = lawful-plain (block_of r) (took_by k (block_of r)) w.table (keeps-none total w.state) (plain_quiet w.state) }

processed-length : (t : List Slot) (b : Block) (s : State) → length (processed_table t b s) ≡ length t
unfolding processed_table settled_for
processed-length t b s = settled-length t (work_for b s.core.last_committed_round 0)

going-length : (t : List Slot) (b : Block) (p : Proposal) → length (going_on_table t b p) ≡ length t
unfolding going_on_table
going-length t b p = cases p.goes_on
  where
    cases : (u : Bool) → length (cond u (processed_table t b p.out.left.state) t) ≡ length t
    cases true = processed-length t b p.out.left.state
    cases false = refl

module _ (w : World) (r : List ℕ) (t : Stake) (k : Ready w.seat w.stakes w.state.votes w.state.timeouts t) where
  low : quorum_of (committee w) ≤ suc t.0
  unfolding quorum_of quorum_from
  low = omega (arith, k.total)

  long : length w.state.votes ≡ votes_length
  long = k.sound.long

  wide : length w.state.timeouts ≡ timeouts_length
  wide = k.sound.wide

  handled-lawful : (e : Kind) → Steps t.0 w r (Some e) (handled w r e)
  handled-lawful Kind.Start = steps-refused t.0 started_again w r (Some Kind.Start)
  handled-lawful Kind.Propose =
      record {
        seat = refl;
        stakes = refl;
        slots = going-length w.table (block_of r) (proposal_of (committee w) w.state (block_of r) r (payload_of r));
        lawful = lawful-treats (treats-proposed t.0 (committee w) w.seat.own.0 low (block_of r) w.table w.state long wide r (payload_of r));
      }
  handled-lawful Kind.Vote =
      record {
        seat = refl;
        stakes = refl;
        slots = refl;
        lawful =
            lawful-plain (block_of r) 0 w.table (vote-keeps t.0 (committee w) w.seat.own.0 low w.state long wide (vote_of r)) (plain-vote (committee w) w.seat.own.0 w.state (vote_of r));
      }
  handled-lawful Kind.Timeout =
      record {
        seat = refl;
        stakes = refl;
        slots = refl;
        lawful =
            lawful-plain (block_of r) 0 w.table (timeout-keeps t.0 (committee w) w.seat.own.0 low w.state long wide (timeout_of r) r)
            (plain-timeout (committee w) w.seat.own.0 w.state (timeout_of r) r);
      }
  handled-lawful Kind.Tc =
      record {
        seat = refl;
        stakes = refl;
        slots = refl;
        lawful =
            lawful-plain (block_of r) 0 w.table (tc-keeps t.0 (committee w) w.seat.own.0 low w.state long wide (tc_round r tc_body) r)
            (plain-tc (committee w) w.seat.own.0 w.state (tc_round r tc_body) r);
      }
  handled-lawful Kind.Loopback =
      record {
        seat = refl;
        stakes = refl;
        slots = processed-length w.table (block_of r) w.state;
        lawful = lawful-treats (treats-processed t.0 (committee w) w.seat.own.0 low (block_of r) w.table 0 w.state (omega arith) long wide);
      }
  handled-lawful Kind.Tick =
      record { seat = refl; stakes = refl; slots = refl; lawful = lawful-tick t.0 (committee w) w.seat.own.0 low (block_of r) 0 w.table w.state long wide }

-- ---- any event

-- a refusal by the room or the limits, or the event's own part
limited-or : (total : ℕ) (w : World) (r : List ℕ) (k : Option Kind) (x : Result) (u v : Bool) (m n : ℕ) → Steps total w r k x
    → Steps total w r k (cond u (cond v x (refused_in m w)) (refused_in n w))
limited-or total w r k x true true m n h = h
limited-or total w r k x true false m n h = steps-refused total m w r k
limited-or total w r k x false v m n h = steps-refused total n w r k

pub step-lawful : (w : World) (e : Event) (t : Stake) → Started w t → Steps t.0 w e.bytes (form_of e.bytes) (step_on w e)
unfolding stepped
step-lawful w e t s = cases (form_of e.bytes)
  where
    other : (k : Kind) → Steps t.0 w e.bytes (Some k) (on_other w e.room e.bytes k (started w))
    other k =
        rw s
        (limited-or t.0 w e.bytes (Some k) (handled w e.bytes k) (roomy (length w.table) e.room) (eqb (limit_of e.bytes k) 0) (limit_of e.bytes k) no_room
        (handled-lawful w e.bytes t (started-ready w.seat w.stakes w.state.votes w.state.timeouts t s) k))

    cases : (k : Option Kind) → Steps t.0 w e.bytes k (on_kind w e.room e.bytes k)
    cases None = steps-refused t.0 bad_record w e.bytes None
    cases (Some Kind.Start) = rw s (steps-refused t.0 started_again w e.bytes (Some Kind.Start))
    cases (Some Kind.Propose) = other Kind.Propose
    cases (Some Kind.Vote) = other Kind.Vote
    cases (Some Kind.Timeout) = other Kind.Timeout
    cases (Some Kind.Tc) = other Kind.Tc
    cases (Some Kind.Loopback) = other Kind.Loopback
    cases (Some Kind.Tick) = other Kind.Tick

-- ---- an event is refused by 16, 34, 18 or a limit, or gives what its kind says

pub data Gives (w : World) (e : Event) (k : Option Kind) (x : Result) : Type 0 where
  formless : x ≡ refused_in bad_record w → Gives w e k x
  again : x ≡ refused_in started_again w → Gives w e k x
  roomless : x ≡ refused_in no_room w → Gives w e k x
  limited : (i : Kind) → k ≡ Some i → x ≡ refused_in (limit_of e.bytes i) w → Gives w e k x
  gives : (i : Kind) → k ≡ Some i → roomy (length w.table) e.room ≡ true → limit_of e.bytes i ≡ 0 → x ≡ handled w e.bytes i → Gives w e k x

module _ (w : World) (e : Event) (t : Stake) (s : Started w t) where
  by_tests : (k : Kind) (a b : Bool) → roomy (length w.table) e.room ≡ a → eqb (limit_of e.bytes k) 0 ≡ b
      → Gives w e (Some k) (cond a (cond b (handled w e.bytes k) (refused_in (limit_of e.bytes k) w)) (refused_in no_room w))
  by_tests k true true f g = gives k refl f (eqb-true _ 0 g) refl
  by_tests k true false f g = limited k refl refl
  by_tests k false b f g = roomless refl

  by-other : (k : Kind) → Gives w e (Some k) (on_other w e.room e.bytes k (started w))
  by-other k = rw s (by_tests k (roomy (length w.table) e.room) (eqb (limit_of e.bytes k) 0) refl refl)

  by_kind : (k : Option Kind) → Gives w e k (on_kind w e.room e.bytes k)
  by_kind None = formless refl
  by_kind (Some Kind.Start) = rw s (again refl)
  by_kind (Some Kind.Propose) = by-other Kind.Propose
  by_kind (Some Kind.Vote) = by-other Kind.Vote
  by_kind (Some Kind.Timeout) = by-other Kind.Timeout
  by_kind (Some Kind.Tc) = by-other Kind.Tc
  by_kind (Some Kind.Loopback) = by-other Kind.Loopback
  by_kind (Some Kind.Tick) = by-other Kind.Tick

  pub step_is : Gives w e (form_of e.bytes) (step_on w e)
  unfolding stepped
  step_is = by_kind (form_of e.bytes)

-- ---- it counts as started

total-same : {t u : Stake} → ◌≡◌ {A = Option Stake} (Some u) (Some t) → u ≡ t
total-same e = cc

bad-total : {t : Stake} → ◌≡◌ {A = Option Stake} None (Some t) → ⊥
bad-total e = let z : ◌≡◌ {A = ℕ} 0 1 = cc in omega arith

-- two tests that both say no, and say no again
light-again : (u t : Stake) (a b c d : Bool) → (u ≡ t → a ≡ false → c ≡ false) → (u ≡ t → b ≡ false → d ≡ false)
    → cond a None (cond b None (Some u)) ≡ Some t → cond c None (cond d None (Some u)) ≡ Some t
light-again u t true b c d f g h = absurd (bad-total h)
light-again u t false true c d f g h = absurd (bad-total h)
light-again u t false false c d f g h = rw (f (total-same h) refl, g (total-same h) refl) h

module _ (t : Stake) (v v' o o' : List ℕ) (f : Light vote_width vote_tallies v t.0 → Light vote_width vote_tallies v' t.0)
    (g : Light timeout_width timeout_tallies o t.0 → Light timeout_width timeout_tallies o' t.0) where
  votes-again : (u : Stake) → u ≡ t → heavy vote_width vote_tallies v u.0 ≡ false → heavy vote_width vote_tallies v' u.0 ≡ false
  votes-again u e h = rw e (light-heavy vote_width vote_tallies v' t.0 (f (light-of vote_width vote_tallies v t.0 (rw e at h))))

  timeouts-again : (u : Stake) → u ≡ t → heavy timeout_width timeout_tallies o u.0 ≡ false → heavy timeout_width timeout_tallies o' u.0 ≡ false
  timeouts-again u e h = rw e (light-heavy timeout_width timeout_tallies o' t.0 (g (light-of timeout_width timeout_tallies o t.0 (rw e at h))))

  light-in-again : (st : Option Stake) → light_in v o st ≡ Some t → light_in v' o' st ≡ Some t
  light-in-again None h = h
  light-in-again (Some u) h =
      light-again u t (heavy vote_width vote_tallies v u.0) (heavy timeout_width timeout_tallies o u.0) (heavy vote_width vote_tallies v' u.0)
      (heavy timeout_width timeout_tallies o' u.0) (votes-again u) (timeouts-again u) h

cond-again : (b : Bool) (x y : Option Stake) (t : Stake) → (x ≡ Some t → y ≡ Some t) → cond b x None ≡ Some t → cond b y None ≡ Some t
cond-again true x y t f h = f h
cond-again false x y t f h = h

pub stays-started : (seat : Seat) (stakes : List ℕ) (s s' : State) (t : Stake) → Stays t.0 s s' → started_of seat stakes s.votes s.timeouts ≡ Some t
    → started_of seat stakes s'.votes s'.timeouts ≡ Some t
unfolding started_of
stays-started seat stakes s s' t k h =
    rw (k.votes, k.timeouts)
    (cond-again (shaped seat (length stakes) (length s.votes) (length s.timeouts)) (light_in s.votes s.timeouts (setup_of (members_of seat stakes)))
    (light_in s'.votes s'.timeouts (setup_of (members_of seat stakes))) t
    (light-in-again t s.votes s'.votes s.timeouts s'.timeouts k.votes-light k.timeouts-light (setup_of (members_of seat stakes))) h)

-- "a started record stays started": no START is taken in a run
pub started-again : (w : World) (e : Event) (t : Stake) → Started w t → Started (step_on w e).world t
started-again w e t s =
    let k = step-lawful w e t s in
    rw (k.seat, k.stakes) (stays-started w.seat w.stakes w.state (step_on w e).world.state t k.lawful.stays s)

-- ---- a START that was taken

-- what a START leaves, and its total stake
pub record Starts (w : World) (e : Event) : Type 0 where
  pub total : Stake
  pub setup : setup_at (drop 2 e.bytes) ≡ Some total
  pub is : step_on w e
      ≡ record {
        answer = 0;
        world = record { seat = new_seat e.bytes; stakes = new_stakes e.bytes; state = new_state; table = cleared w.table };
        outs = start_outs e.bytes;
      }

by-setup : (w : World) (r : List ℕ) (st : Option Stake) → (begun_by w r st).answer ≡ 0 → (t : Stake) × (st ≡ Some t)
by-setup w r None h = absurd (omega arith)
by-setup w r (Some t) h = (t, refl)

by-room : (w : World) (x : Result) (u v : Bool) → (cond u (cond v x (refused_in no_room w)) (refused_in no_room w)).answer ≡ 0
    → cond u (cond v x (refused_in no_room w)) (refused_in no_room w) ≡ x
by-room w x true true h = refl
by-room w x true false h = absurd (omega arith)
by-room w x false v h = absurd (omega arith)

by-started : (w : World) (room : ℕ) (r : List ℕ) (st : Option Stake) → (on_start w room r st).answer ≡ 0 → on_start w room r st ≡ begun w r
by-started w room r (Some t) h = absurd (omega arith)
by-started w room r None h = by-room w (begun w r) (roomy (length w.table) room) (sized_in w) h

start_is : (w : World) (e : Event) → Begun w e → step_on w e ≡ begun w e.bytes
unfolding stepped
start_is w e b =
    let s : step_on w e ≡ on_start w e.room e.bytes (started w) = rw b.start in
    s ∙ by-started w e.room e.bytes (started w) (ap (λ (x : Result). x.answer) (sym s) ∙ b.taken)

pub starts : (w : World) (e : Event) → Begun w e → Starts w e
unfolding begun
starts w e b =
    let s = start_is w e b in
    let t = by-setup w e.bytes (setup_at (drop 2 e.bytes)) (ap (λ (x : Result). x.answer) (sym s) ∙ b.taken) in
    record { total = t.0; setup = t.1; is = s ∙ rw t.1 }

-- it counts as started
new-shaped : (r : List ℕ) (t : Stake) → setup_at (drop 2 r) ≡ Some t
    → true ≡ shaped (new_seat r) (length (new_stakes r)) (length new_state.votes) (length new_state.timeouts)
unfolding new_stakes
new-shaped r t e =
    let k = start.started (drop 2 r) t e in
    let l : length (loaded_stakes members_max (drop 2 r)) ≡ members_max = start.length-loaded members_max (drop 2 r) in
    let v : length new_state.votes ≡ votes_length = length-replicate {A = ℕ} votes_length 0 in
    let o : length new_state.timeouts ≡ timeouts_length = length-replicate {A = ℕ} timeouts_length 0 in
    shaped-all (length (new_stakes r)) (length new_state.votes) (length new_state.timeouts) (new_seat r) k.few k.own
    (sym (eq-eqb _ _ o) ∙ sized-all (length (new_stakes r)) (length new_state.votes) (length new_state.timeouts) l v)

new-light : (t : Stake) → light_in new_state.votes new_state.timeouts (Some t) ≡ Some t
new-light t =
    let v : heavy vote_width vote_tallies new_state.votes t.0 ≡ false =
    light-heavy vote_width vote_tallies new_state.votes t.0 (zeros-light vote_width vote_tallies votes_length t.0 (omega arith)) in
    let o : heavy timeout_width timeout_tallies new_state.timeouts t.0 ≡ false =
    light-heavy timeout_width timeout_tallies new_state.timeouts t.0 (zeros-light timeout_width timeout_tallies timeouts_length t.0 (omega arith)) in
    rw (v, o)

new-started : (r : List ℕ) (t : Stake) → setup_at (drop 2 r) ≡ Some t → started_of (new_seat r) (new_stakes r) new_state.votes new_state.timeouts ≡ Some t
unfolding started_of new_stakes
new-started r t e = rw (← new-shaped r t e, start.loaded-setup members_max (drop 2 r) t (omega arith) e) (new-light t)

pub start-started : (w : World) (e : Event) (k : Starts w e) → Started (step_on w e).world k.total
start-started w e k = rw k.is (new-started e.bytes k.total k.setup)

pub start-silent : (w : World) (e : Event) → Starts w e → Silent (step_on w e).outs
start-silent w e k = rw k.is (silent-announced (members_of (new_seat e.bytes) (new_stakes e.bytes)) (new_seat e.bytes).own.0 new_core)
