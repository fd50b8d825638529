-- One event, from a record's bytes and all that is lent. 01, Numbers the host sees: "Order: 16, 34 or 33, 18, 17, 32, 20, 19, then the
-- event's own order."
--     World                      the replica record and the table of blocks
--     Result                     an answer, the world that is left, the records that are written
--     begun                      START's world
--     handled w k r              the event's own part
--     stepped w room r           one event
--     laid x out                 a result laid into a buffer: every byte of it
use Rattle.std.specs.Prelude.{ℕ, ◌+◌, Bool, cond, List, [], ◌∷◌, ◌++◌, eqb, length, drop, replicate, Option, None, Some}
use Rattle.certificates.specs.Numbers.{zero_hash}
use Rattle.certificates.specs.Config.{members_max}
use Rattle.certificates.specs.Start.{member_count, own_place, setup_at, loaded_stakes}
use Rattle.certificates.specs.Error.{number, bad_record, bad_setup, no_room, not_started, started_again}
use Rattle.certificates.specs.declared.numbers.Stake.{Stake}
use Rattle.trace.specs.declared.events.Kind.{Kind}
use Rattle.trace.specs.declared.events.Block.{Block}
use Rattle.trace.specs.Form.{form_of}
use Rattle.trace.specs.Limits.{limit_of}
use Rattle.trace.specs.Fields.{vote_of, timeout_of, block_of}
use Rattle.trace.specs.Layout.{tc_body, tc_round, payload_of}
use Rattle.outputs.specs.Records.{Rec, timer_reset, enc_all, timer_reset_size, make_size}
use Rattle.aggregator.specs.Tallies.{votes_length, timeouts_length}
use Rattle.synchronizer.specs.declared.table.Slot.{Slot}
use Rattle.synchronizer.specs.Table.{cleared}
use Rattle.moves.specs.declared.state.Core.{Core}
use Rattle.moves.specs.State.{State, whole}
use Rattle.moves.specs.Outcome.{Outcome}
use Rattle.moves.specs.Moves.{make_of}
use Rattle.replica.specs.declared.started.Seat.{Seat}
use Rattle.replica.specs.declared.stages.Stepped.{Stepped}
use Rattle.replica.specs.Started.{members_of, started_of, sized, roomy}
use Rattle.handlers.specs.Votes.{handled_vote}
use Rattle.handlers.specs.Timeouts.{handled_timeout, handled_tc, handled_tick}
use Rattle.handlers.specs.Proposals.{Proposal, proposal_of}
use Rattle.replica.specs.Blocks.{processed, processed_table, going_on, going_on_table}

pub record World : Type 0 where
  pub seat : Seat
  pub stakes : List ℕ
  pub state : State
  pub table : List Slot

pub record Result : Type 0 where
  pub answer : ℕ
  pub world : World
  pub outs : List Rec

-- an early refusal: no state changes, no output is written
abbrev pub refused_in : ℕ → World → Result
refused_in n w = record { answer = n; world = w; outs = [] }

-- an outcome, with the table that it leaves
abbrev pub in_world : World → List Slot → Outcome → Result
in_world w t o =
    record {
      answer = o.answer;
      world = record { seat = w.seat; stakes = w.stakes; state = o.left.state; table = t };
      outs = o.left.outs;
    }

-- ---- START

-- "round 1, last voted 0, last committed 0, high QC genesis"
abbrev pub new_core : Core
new_core =
    record {
      round = record { 0 = 1 };
      last_voted_round = record { 0 = 0 };
      last_committed_round = record { 0 = 0 };
      high_qc = record { hash = zero_hash; round = record { 0 = 0 }; signers = record { 0 = 0 } };
    }

abbrev pub new_seat : List ℕ → Seat
new_seat r = record { count = member_count (drop 2 r); own = record { 0 = own_place (drop 2 r) } }

-- "tallies and table empty": the whole record is new, and every slot of the lent table becomes zeros
abbrev pub new_state : State
new_state = whole new_core (replicate votes_length 0) (replicate timeouts_length 0)

unfoldable pub new_stakes : List ℕ → List ℕ
new_stakes r = loaded_stakes members_max (drop 2 r)

-- "TIMER RESET; MAKE without TC if own place leads round 1."
unfoldable pub announced : List ℕ → ℕ → Core → List Rec
announced m own c = timer_reset ∷ make_of m own c

abbrev pub announced_most : ℕ
announced_most = timer_reset_size + make_size

abbrev pub start_outs : List ℕ → List Rec
start_outs r = announced (members_of (new_seat r) (new_stakes r)) (new_seat r).own.0 new_core

abbrev pub begun_by : World → List ℕ → Option Stake → Result
begun_by w r None = refused_in bad_setup w
begun_by w r (Some t) =
    record {
      answer = 0;
      world = record { seat = new_seat r; stakes = new_stakes r; state = new_state; table = cleared w.table };
      outs = start_outs r;
    }

unfoldable pub begun : World → List ℕ → Result
begun w r = begun_by w r (setup_at (drop 2 r))

-- ---- the other six

abbrev pub committee : World → List ℕ
committee w = members_of w.seat w.stakes

abbrev pub gone_on : World → Block → Proposal → Result
gone_on w b p = in_world w (going_on_table w.table b p) (going_on (committee w) w.seat.own.0 w.table b p)

abbrev pub handled : World → List ℕ → Kind → Result
handled w r Kind.Start = refused_in started_again w
handled w r Kind.Propose = gone_on w (block_of r) (proposal_of (committee w) w.state (block_of r) r (payload_of r))
handled w r Kind.Vote = in_world w w.table (handled_vote (committee w) w.seat.own.0 w.state (vote_of r))
handled w r Kind.Timeout = in_world w w.table (handled_timeout (committee w) w.seat.own.0 w.state (timeout_of r) r)
handled w r Kind.Tc = in_world w w.table (handled_tc (committee w) w.seat.own.0 w.state (tc_round r tc_body) r)
handled w r Kind.Loopback =
    in_world w (processed_table w.table (block_of r) w.state) (processed (committee w) w.seat.own.0 w.table (block_of r) w.state)
handled w r Kind.Tick = in_world w w.table (handled_tick (committee w) w.seat.own.0 w.state)

-- ---- the order of refusals

abbrev pub started : World → Option Stake
started w = started_of w.seat w.stakes w.state.votes w.state.timeouts

abbrev pub sized_in : World → Bool
sized_in w = sized (length w.stakes) (length w.state.votes) (length w.state.timeouts)

-- a record of START: 34, 18, 17. Lent memory of other sizes cannot hold a replica: 18
abbrev pub on_start : World → ℕ → List ℕ → Option Stake → Result
on_start w room r (Some t) = refused_in started_again w
on_start w room r None = cond (roomy (length w.table) room) (cond (sized_in w) (begun w r) (refused_in no_room w)) (refused_in no_room w)

-- any other: 33, 18, then 32, 20, 19
abbrev pub on_other : World → ℕ → List ℕ → Kind → Option Stake → Result
on_other w room r k None = refused_in not_started w
on_other w room r k (Some t) =
    cond (roomy (length w.table) room) (cond (eqb (limit_of r k) 0) (handled w r k) (refused_in (limit_of r k) w)) (refused_in no_room w)

abbrev pub on_kind : World → ℕ → List ℕ → Option Kind → Result
on_kind w room r None = refused_in bad_record w
on_kind w room r (Some Kind.Start) = on_start w room r (started w)
on_kind w room r (Some Kind.Propose) = on_other w room r Kind.Propose (started w)
on_kind w room r (Some Kind.Vote) = on_other w room r Kind.Vote (started w)
on_kind w room r (Some Kind.Timeout) = on_other w room r Kind.Timeout (started w)
on_kind w room r (Some Kind.Tc) = on_other w room r Kind.Tc (started w)
on_kind w room r (Some Kind.Loopback) = on_other w room r Kind.Loopback (started w)
on_kind w room r (Some Kind.Tick) = on_other w room r Kind.Tick (started w)

unfoldable pub stepped : World → ℕ → List ℕ → Result
stepped w room r = on_kind w room r (form_of r)

-- ---- every byte

pub record Left : Type 0 where
  pub answer : ℕ
  pub world : World
  pub written : ℕ
  pub out : List ℕ

-- the bytes of the records, and past them what was there: "Output bytes past the written count never change"
unfoldable pub laid : Result → List ℕ → Left
laid x out =
    record {
      answer = x.answer;
      world = x.world;
      written = length (enc_all x.outs);
      out = enc_all x.outs ++ drop (length (enc_all x.outs)) out;
    }

-- what code hands back
abbrev pub world : Seat → List ℕ → Core → List ℕ → List ℕ → List Slot → World
world seat stakes core votes timeouts table = record { seat = seat; stakes = stakes; state = whole core votes timeouts; table = table }

abbrev pub left_by : Stepped → List ℕ → List ℕ → List ℕ → List Slot → List ℕ → Left
left_by r stakes votes timeouts table out =
    record { answer = number r.answer; world = world r.seat stakes r.core votes timeouts table; written = r.written; out = out }
