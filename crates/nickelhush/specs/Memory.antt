-- The replica's record as a host lends it: lists of numbers, and a result as one number.
--     seat_length, core_length, fit   the lengths that the seat and the core must have
--     ready seat core kind            that, and a record that has a form
--     seat_of, core_of                what they hold
--     seat_numbers, core_numbers      the numbers of a seat and a core
--     Lent, world_of                  all that is lent but the record; the world that it holds
--     packed, written_most            an answer and a count of bytes as one number; the most bytes that an event writes
--     hosted m r                      one event over what is lent: the result, and what is lent as it is left
--     taken_of                        the bytes of the record at the front of a trace
--     sizes, size_of, room_of         how much to lend
use Rattle.std.specs.Prelude.{ℕ, ◌+◌, ◌*◌, Bool, false, cond, Option, None, Some, is_some, List, [], ◌∷◌, eqb, ltb, length, get_or}
use Rattle.certificates.specs.Config.{members_max}
use Rattle.certificates.specs.Error.{bad_record, no_room, not_started}
use Rattle.trace.specs.declared.events.Kind.{Kind}
use Rattle.trace.specs.declared.record.Front.{Front}
use Rattle.trace.specs.Form.{form_of}
use Rattle.trace.specs.Record.{record_max}
use Rattle.aggregator.specs.Tallies.{votes_length, timeouts_length}
use Rattle.synchronizer.specs.declared.table.Slot.{Slot}
use Rattle.moves.specs.declared.state.Core.{Core}
use Rattle.replica.specs.declared.started.Seat.{Seat}
use Rattle.replica.specs.Started.{slots_max, room_for}
use Rattle.replica.specs.Step.{World, Left, world, stepped, laid}

-- ---- the seat and the core

abbrev pub seat_length : ℕ
seat_length = 2

abbrev pub core_length : ℕ
core_length = 9

unfoldable pub fit : ℕ → ℕ → Bool
fit seat core = cond (eqb seat seat_length) (eqb core core_length) false

unfoldable pub ready : ℕ → ℕ → Option Kind → Bool
ready seat core kind = cond (fit seat core) (is_some kind) false

-- the member count, the own place
abbrev pub seat_of : List ℕ → Seat
seat_of s = record { count = get_or s 0 0; own = record { 0 = get_or s 1 0 } }

-- round, last voted, last committed; the high QC's hash, round, signers
abbrev pub core_of : List ℕ → Core
core_of c =
    record {
      round = record { 0 = get_or c 0 0 };
      last_voted_round = record { 0 = get_or c 1 0 };
      last_committed_round = record { 0 = get_or c 2 0 };
      high_qc =
          record {
            hash = record { a = get_or c 3 0; b = get_or c 4 0; c = get_or c 5 0; d = get_or c 6 0 };
            round = record { 0 = get_or c 7 0 };
            signers = record { 0 = get_or c 8 0 };
          };
    }

abbrev pub seat_numbers : Seat → List ℕ
seat_numbers s = s.count ∷ s.own.0 ∷ []

abbrev pub core_numbers : Core → List ℕ
core_numbers c =
    c.round.0
    ∷ c.last_voted_round.0
    ∷ c.last_committed_round.0
    ∷ c.high_qc.hash.a
    ∷ c.high_qc.hash.b
    ∷ c.high_qc.hash.c
    ∷ c.high_qc.hash.d
    ∷ c.high_qc.round.0
    ∷ c.high_qc.signers.0
    ∷ []

-- ---- what is lent

pub record Lent : Type 0 where
  pub seat : List ℕ
  pub core : List ℕ
  pub stakes : List ℕ
  pub votes : List ℕ
  pub timeouts : List ℕ
  pub table : List Slot
  pub out : List ℕ

abbrev pub lent : List ℕ → List ℕ → List ℕ → List ℕ → List ℕ → List Slot → List ℕ → Lent
lent seat core stakes votes timeouts table out =
    record { seat = seat; core = core; stakes = stakes; votes = votes; timeouts = timeouts; table = table; out = out }

abbrev pub world_of : Lent → World
world_of m = world (seat_of m.seat) m.stakes (core_of m.core) m.votes m.timeouts m.table

-- ---- one event

-- the answer, and 65,536 times the bytes written
abbrev pub packed : ℕ → ℕ → ℕ
packed answer written = answer + 65536 * written

-- no event writes more than 44 bytes a slot and 2,048, and no table has more than 1,024 slots
abbrev pub written_most : ℕ
written_most = room_for slots_max

pub record Handed : Type 0 where
  pub result : ℕ
  pub left : Lent

abbrev pub handed : ℕ → Lent → Handed
handed result left = record { result = result; left = left }

-- what an event left, in the numbers that were lent
unfoldable pub handed_by : Left → Handed
handed_by l =
    handed (packed l.answer l.written)
    (lent (seat_numbers l.world.seat) (core_numbers l.world.state.core) l.world.stakes l.world.state.votes l.world.state.timeouts l.world.table l.out)

-- a seat or a core of another length: "counts as not started" (33), and cannot hold a replica (18), after 16
abbrev pub unfit_answer : Option Kind → ℕ
unfit_answer None = bad_record
unfit_answer (Some Kind.Start) = no_room
unfit_answer (Some Kind.Propose) = not_started
unfit_answer (Some Kind.Vote) = not_started
unfit_answer (Some Kind.Timeout) = not_started
unfit_answer (Some Kind.Tc) = not_started
unfit_answer (Some Kind.Loopback) = not_started
unfit_answer (Some Kind.Tick) = not_started

unfoldable pub hosted : Lent → List ℕ → Handed
hosted m r =
    cond (fit (length m.seat) (length m.core))
    (handed_by (laid (stepped (world_of m) (length m.out) r) m.out))
    (handed (packed (unfit_answer (form_of r)) 0) m)

-- ---- a trace, and sizes

-- the bytes that the record at the front takes; 0 at the end of the trace, 1 where a run ends in ANSWER 16
abbrev pub taken_of : Front → ℕ
taken_of Front.End = 0
taken_of Front.Cut = 1
taken_of (Front.Small end) = end
taken_of (Front.Record kind end) = end

abbrev pub sizes : List ℕ
sizes = seat_length ∷ core_length ∷ members_max ∷ votes_length ∷ timeouts_length ∷ slots_max ∷ record_max ∷ []

unfoldable pub size_of : ℕ → ℕ
size_of part = get_or sizes part 0

-- "table not 1 to 1,024 slots, or output below 44*slots+2,048 bytes"
unfoldable pub room_of : ℕ → ℕ
room_of slots = cond (eqb slots 0) 0 (cond (ltb slots_max slots) 0 (room_for slots))
