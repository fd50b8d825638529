-- How the code goes about an event: what needs no block first, then the table, then the vote. `proofs.StageLaws` shows that the three
-- together are `stepped`.
--     Stage                     what the first part leaves, and what is to be done with the table
--     staged_of w slots room r  the first part; staged_by is that of a record's form
--     work_at                   what the table is asked for; task_of as a task, is_block whether it is a block
--     finished_of               the last part
--     together                  the three, as one result
--     Begins, Finishes          what the code of the two parts did
use Rattle.std.specs.Prelude.{ℕ, ◌+◌, ◌≤◌, Bool, true, false, cond, List, ◌++◌, ◌≡◌, eqb, length, drop, Option, None, Some, Ok, Err}
use Rattle.std.specs.Prelude as std
use Rattle.certificates.specs.declared.error.Refusal.{Refusal}
use Rattle.certificates.specs.declared.error.Refusal.TheVariants as refusal
use Rattle.certificates.specs.Config.{quorum_of}
use Rattle.certificates.specs.Start.{setup_at, loaded_stakes}
use Rattle.certificates.specs.Error.{number, bad_record, bad_setup, no_room, not_started, started_again}
use Rattle.certificates.specs.declared.numbers.Stake.{Stake}
use Rattle.trace.specs.declared.events.Kind.{Kind}
use Rattle.trace.specs.declared.events.Block.{Block}
use Rattle.trace.specs.Form.{form_of}
use Rattle.trace.specs.Limits.{limit_of}
use Rattle.trace.specs.Fields.{TcWithin, vote_of, timeout_of, block_of}
use Rattle.certificates.specs.Numbers.{round_max}
use Rattle.trace.specs.Layout.{tc_body, tc_round, payload_of}
use Rattle.aggregator.specs.Rows.{zeros}
use Rattle.moves.specs.declared.state.Core.{Core}
use Rattle.moves.specs.declared.state.Ran.{Ran}
use Rattle.moves.specs.State.{State, with_core, with_committed}
use Rattle.moves.specs.Outcome.{Outcome, quiet, done, refused, Did}
use Rattle.handlers.specs.Sound.{Sound}
use Rattle.handlers.specs.Votes.{handled_vote, voting, voting_most}
use Rattle.handlers.specs.Timeouts.{handled_timeout, handled_tc, handled_tick}
use Rattle.handlers.specs.Proposals.{Proposal, proposal_of}
use Rattle.synchronizer.specs.declared.table.Slot.{Slot}
use Rattle.synchronizer.specs.declared.settle.Task.{Task}
use Rattle.synchronizer.specs.declared.settle.Work.{Work}
use Rattle.synchronizer.specs.declared.settle.Settled.{Settled}
use Rattle.synchronizer.specs.Settle.{Settlement, settled_of}
use Rattle.replica.specs.declared.started.Seat.{Seat}
use Rattle.replica.specs.declared.stages.Handed.{Handed}
use Rattle.replica.specs.declared.stages.Begun.{Begun}
use Rattle.replica.specs.declared.stages.Does.{Does}
use Rattle.replica.specs.declared.stages.Stepped.{Stepped}
use Rattle.replica.specs.Started.{members_of, started_of, sized}
use Rattle.replica.specs.Blocks.{slot_for}
use Rattle.replica.specs.Step.{Result, new_seat, new_stakes, new_state, start_outs, announced_most}

pub record Stage : Type 0 where
  pub does : Does
  pub seat : Seat
  pub stakes : List ℕ
  pub out : Outcome

-- an event that ends before the table
abbrev pub ended : Seat → List ℕ → Outcome → Stage
ended seat stakes o = record { does = Does.Nothing; seat = seat; stakes = stakes; out = o }

-- ---- the first part, of a started replica within the limits

-- what a handler does before the table, and what is to be done with the table
pub record Handled : Type 0 where
  pub does : Does
  pub out : Outcome

abbrev pub alone : Outcome → Handled
alone o = record { does = Does.Nothing; out = o }

abbrev pub by_proposal : Proposal → Handled
by_proposal p = record { does = cond p.goes_on Does.Block Does.Nothing; out = p.out }

abbrev pub handled_in : List ℕ → ℕ → State → List ℕ → Kind → Handled
handled_in m own s r Kind.Start = alone (refused started_again s)
handled_in m own s r Kind.Propose = by_proposal (proposal_of m s (block_of r) r (payload_of r))
handled_in m own s r Kind.Vote = alone (handled_vote m own s (vote_of r))
handled_in m own s r Kind.Timeout = alone (handled_timeout m own s (timeout_of r) r)
handled_in m own s r Kind.Tc = alone (handled_tc m own s (tc_round r tc_body) r)
handled_in m own s r Kind.Loopback = record { does = Does.Block; out = done 0 (quiet s) }
handled_in m own s r Kind.Tick = alone (handled_tick m own s)

abbrev pub in_seat : Seat → List ℕ → Handled → Stage
in_seat seat stakes h = record { does = h.does; seat = seat; stakes = stakes; out = h.out }

unfoldable pub ready_in : Seat → List ℕ → State → Bool → List ℕ → Kind → Stage
ready_in seat stakes s room r k =
    cond room
    (cond (eqb (limit_of r k) 0)
    (in_seat seat stakes (handled_in (members_of seat stakes) seat.own.0 s r k))
    (ended seat stakes (refused (limit_of r k) s)))
    (ended seat stakes (refused no_room s))

-- ---- START

abbrev pub booted_by : Seat → List ℕ → State → List ℕ → Option Stake → Stage
booted_by seat stakes s r None = ended seat stakes (refused bad_setup s)
booted_by seat stakes s r (Some t) =
    record { does = Does.Clear; seat = new_seat r; stakes = new_stakes r; out = done 0 (record { state = new_state; outs = start_outs r }) }

-- what a record of START meets: 18, 17, or a good setup
abbrev pub booting_by : Option Stake → std.Result Stake Refusal
booting_by None = Err refusal.BadSetup
booting_by (Some t) = Ok t

unfoldable pub booting_of : Bool → Bool → Option Stake → std.Result Stake Refusal
booting_of room size st = cond room (cond size (booting_by st) (Err refusal.NoRoom)) (Err refusal.NoRoom)

unfoldable pub started_in : Seat → List ℕ → State → Bool → List ℕ → Stage
started_in seat stakes s room r =
    cond room
    (cond (sized (length stakes) (length s.votes) (length s.timeouts))
    (booted_by seat stakes s r (setup_at (drop 2 r)))
    (ended seat stakes (refused no_room s)))
    (ended seat stakes (refused no_room s))

-- ---- the order of refusals

abbrev pub is_start : Kind → Bool
is_start Kind.Start = true
is_start Kind.Propose = false
is_start Kind.Vote = false
is_start Kind.Timeout = false
is_start Kind.Tc = false
is_start Kind.Loopback = false
is_start Kind.Tick = false

abbrev pub by_setup : Seat → List ℕ → State → Bool → List ℕ → Kind → Option Stake → Stage
by_setup seat stakes s room r k None = cond (is_start k) (started_in seat stakes s room r) (ended seat stakes (refused not_started s))
by_setup seat stakes s room r k (Some t) = cond (is_start k) (ended seat stakes (refused started_again s)) (ready_in seat stakes s room r k)

abbrev pub staged_by : Seat → List ℕ → State → Bool → List ℕ → Option Kind → Stage
staged_by seat stakes s room r None = ended seat stakes (refused bad_record s)
staged_by seat stakes s room r (Some k) = by_setup seat stakes s room r k (started_of seat stakes s.votes s.timeouts)

unfoldable pub staged_of : Seat → List ℕ → State → Bool → List ℕ → Stage
staged_of seat stakes s room r = staged_by seat stakes s room r (form_of r)

-- ---- the last part

abbrev pub is_block : Does → Bool
is_block Does.Nothing = false
is_block Does.Clear = false
is_block Does.Block = true

-- once the table gave this answer and this last committed round
unfoldable pub finished_of : List ℕ → ℕ → State → Does → ℕ → ℕ → ℕ → Block → Outcome
finished_of m own s does first answer last b =
    cond (is_block does)
    (cond (eqb answer 0) (voting m own b (with_core s (with_committed s.core last))) (refused answer (with_core s (with_committed s.core last))))
    (refused first s)

-- ---- the table

abbrev pub task_of : Does → Block → Task
task_of Does.Nothing k = Task.Nothing
task_of Does.Clear k = Task.Clear
task_of Does.Block k = Task.Store (slot_for k) k.author

-- what the table is asked for: a block only where the first part goes on to it
abbrev pub work_at : Begun → Block → Work
work_at b k = record { task = task_of b.does k; last = b.core.last_committed_round; at = b.at }

-- ---- the three together

-- what the table is asked for, of a stage
abbrev pub stage_work : Stage → Block → Work
stage_work g k = record { task = task_of g.does k; last = g.out.left.state.core.last_committed_round; at = 0 }

abbrev pub followed : Stage → Settlement → Outcome → Result
followed g p o =
    record {
      answer = o.answer;
      world = record { seat = g.seat; stakes = g.stakes; state = o.left.state; table = p.table };
      outs = g.out.left.outs ++ (p.outs ++ o.left.outs);
    }

abbrev pub concluded : Stage → Block → Settlement → Result
concluded g k p =
    followed g p
    (finished_of (members_of g.seat g.stakes) g.seat.own.0 g.out.left.state g.does g.out.answer p.answer p.last k)

unfoldable pub together : Stage → List Slot → Block → Result
together g t k = concluded g k (settled_of t (stage_work g k))

-- ---- what code did

-- START's parts, once they are written
pub record Filled (r stakes votes timeouts stakes' votes' timeouts' : List ℕ) : Type 0 where
  pub members : stakes' ≡ loaded_stakes (length stakes) (drop 2 r)
  pub no-votes : votes' ≡ zeros (length votes)
  pub no-timeouts : timeouts' ≡ zeros (length timeouts)

-- what START is known to be before it is
pub record Boots (r : List ℕ) (stakes votes timeouts out : ℕ) (total : Stake) : Type 0 where
  pub sizes : sized stakes votes timeouts ≡ true
  pub setup : setup_at (drop 2 r) ≡ Some total
  pub room : announced_most ≤ out

-- what goes by value, as code makes it
abbrev pub early_begun : Seat → Core → Refusal → Begun
early_begun seat core refusal = record { seat = seat; answer = Err refusal; core = core; at = 0; does = Does.Nothing; need = record { 0 = 0 } }

abbrev pub ran_handed : Ran → Handed
ran_handed r = record { answer = r.answer; core = r.core; at = r.at; does = Does.Nothing }

abbrev pub handed_begun : Seat → Stake → Handed → Begun
handed_begun seat need h = record { seat = seat; answer = h.answer; core = h.core; at = h.at; does = h.does; need = need }

-- what the parts after the first may rely on, where there is a block
pub record Going (m : List ℕ) (own : ℕ) (r votes timeouts : List ℕ) (at : ℕ) : Type 0 where
  pub sound : Sound m own votes timeouts
  pub round : (block_of r).round.0 ≤ round_max
  pub qc_round : (block_of r).qc_round.0 ≤ round_max
  pub tc_round : TcWithin (block_of r).tc
  pub short : at ≤ 8

-- the first part writes at most this much
abbrev pub first_most : ℕ
first_most = 1433

pub record Handles (h : Handled) (m : List ℕ) (own : ℕ) (r before : List ℕ) (x : Handed) (votes timeouts after : List ℕ) : Type 0 where
  pub does : x.does ≡ h.does
  pub answer : number x.answer ≡ h.out.answer
  pub did : Did first_most h.out.left before 0 x.core votes timeouts after x.at
  pub going : x.does ≡ Does.Block → Going m own r votes timeouts x.at

pub record Ongoing (b : Begun) (r stakes votes timeouts : List ℕ) : Type 0 where
  pub few : b.seat.count ≤ length stakes
  pub need : b.need.0 ≡ quorum_of (members_of b.seat stakes)
  pub going : Going (members_of b.seat stakes) b.seat.own.0 r votes timeouts b.at

pub record Begins (g : Stage) (room : Bool) (r before : List ℕ) (b : Begun) (stakes votes timeouts after : List ℕ) : Type 0 where
  pub does : b.does ≡ g.does
  pub sits : b.seat ≡ g.seat
  pub held : stakes ≡ g.stakes
  pub answer : number b.answer ≡ g.out.answer
  pub did : Did first_most g.out.left before 0 b.core votes timeouts after b.at
  pub fits : b.at ≤ length before
  pub going : b.does ≡ Does.Block → (room ≡ true) × Ongoing b r stakes votes timeouts

-- what the last part asks for, where there is a block
pub record Finishable (b : Begun) (s : Settled) (r stakes votes timeouts : List ℕ) (out : ℕ) : Type 0 where
  pub going : b.does ≡ Does.Block → Ongoing b r stakes votes timeouts
  pub room : b.does ≡ Does.Block → s.at + voting_most ≤ out

pub record Finishes (o : Outcome) (k : ℕ) (seat : Seat) (before : List ℕ) (at : ℕ) (r : Stepped) (votes timeouts after : List ℕ) : Type 0 where
  pub answer : number r.answer ≡ o.answer
  pub sits : r.seat ≡ seat
  pub did : Did k o.left before at r.core votes timeouts after r.written
