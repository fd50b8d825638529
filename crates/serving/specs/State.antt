-- A run by value (`Serving`), and what the functions of `state` make of it.
--     slots                               the slots of the table
--     turns_max                           the turns that a run may take
--     rank w, later w v                   the place of a reason in their order; the later of two
--     idle                                a replica that was not started, and nothing read
--     fresh_of m                          a run at its beginning
--     ended_by s w                        the run is over; the later reason stands
--     passed_by s t                       a turn is over, and left t
--     filled_by s n, gained_by s n        n bytes stand unread at the front of the buffer; n more were read behind
--     end_of m                            what the end of the input makes of a run
--     brought_by s g                      what a read makes of a run
--     readable_of m n, due_of m n         of a part no more of the input than is left of it; no more than is due
--     read_by m n, met_in m n             n bytes of the input, of what is expected, were read
--     met_by s n                          n bytes of what is expected were read
--     held_by s n, further_by s n         n bytes wait in the pack; the output is n bytes further on
--     judged_by s got same n              of n bytes of output `same` are those expected, and `got` were read to see that
--     told_of s                           what a program is told
use Rattle.std.specs.Prelude.{ℕ, ◌+◌, ◌-◌, ◌^◌, cond, eqb, leb, ltb, min, Option, Some, None}
use Rattle.certificates.specs.Numbers.{zero_hash}
use Rattle.turns.specs.declared.turn.Run.{Run}
use Rattle.turns.specs.declared.turn.Turned.{Turned}
use Rattle.serving.specs.declared.state.Mode.{Mode}
use Rattle.serving.specs.declared.state.Mode.TheVariants.{Write, File, Part}
use Rattle.serving.specs.declared.state.Why.{Why}
use Rattle.serving.specs.declared.state.Why.TheVariants.{Going, Ended, NotRead, NotWritten, Differs, NoRoom}
use Rattle.serving.specs.declared.state.Serving.{Serving}
use Rattle.serving.specs.declared.state.Served.{Served}

-- "with a 256-slot table"
abbrev pub slots : ℕ
slots = 256

abbrev pub turns_max : ℕ
turns_max = 2 ^ 64 - 1

-- each stands over those before it
abbrev pub rank : Why → ℕ
rank Going = 0
rank Ended = 1
rank NotRead = 2
rank NotWritten = 3
rank Differs = 4
rank NoRoom = 5

abbrev pub later : Why → Why → Why
later w v = cond (ltb (rank w) (rank v)) v w

abbrev pub idle : Run
idle =
    record {
      seat = record { count = 0; own = record { 0 = 0 } };
      core =
          record {
            round = record { 0 = 0 };
            last_voted_round = record { 0 = 0 };
            last_committed_round = record { 0 = 0 };
            high_qc = record { hash = zero_hash; round = record { 0 = 0 }; signers = record { 0 = 0 } };
          };
      at = 0;
      have = 0;
    }

abbrev pub fresh_of : Mode → Serving
fresh_of m = record { run = idle; mode = m; held = 0; place = 0; turns = turns_max; why = Going }

abbrev pub ended_by : Serving → Why → Serving
ended_by s w = record s { turns = 0; why = later s.why w }

abbrev pub passed_by : Serving → Turned → Serving
passed_by s t = record s { run = t.run; turns = s.turns - 1 }

abbrev pub filled_by : Serving → ℕ → Serving
filled_by s n = record s { run = record s.run { at = 0; have = n } }

abbrev pub readable_of : Mode → ℕ → ℕ
readable_of Write n = n
readable_of File n = n
readable_of (Part left due) n = min left n

abbrev pub due_of : Mode → ℕ → ℕ
due_of Write n = n
due_of File n = n
due_of (Part left due) n = min due n

abbrev pub read_by : Mode → ℕ → Mode
read_by Write n = Write
read_by File n = File
read_by (Part left due) n = Part (left - n) due

abbrev pub met_in : Mode → ℕ → Mode
met_in Write n = Write
met_in File n = File
met_in (Part left due) n = Part left (due - n)

-- a part that is cut is not read
abbrev pub end_of : Mode → Why
end_of Write = Ended
end_of File = Ended
end_of (Part left due) = NotRead

abbrev pub gained_by : Serving → ℕ → Serving
gained_by s n = record s { run = record s.run { have = s.run.have + n }; mode = read_by s.mode n }

abbrev pub brought_by : Serving → Option ℕ → Serving
brought_by s None = ended_by s NotRead
brought_by s (Some n) = cond (eqb n 0) (ended_by s (end_of s.mode)) (gained_by s n)

abbrev pub met_by : Serving → ℕ → Serving
met_by s n = record s { mode = met_in s.mode n }

abbrev pub held_by : Serving → ℕ → Serving
held_by s n = record s { held = n }

-- past 2^64 - 1 bytes the count stands still
abbrev pub further_by : Serving → ℕ → Serving
further_by s n = record s { place = cond (leb (s.place + n) turns_max) (s.place + n) s.place }

abbrev pub judged_by : Serving → ℕ → ℕ → ℕ → Serving
judged_by s got same n = cond (ltb same n) (ended_by (further_by (met_by s got) same) Differs) (further_by (met_by s got) same)

abbrev pub told_of : Serving → Served
told_of s = record { why = s.why; place = s.place }
