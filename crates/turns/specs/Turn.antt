-- One turn of a run, from the bytes at the front of what was read. 01, The trace form: "A record is a two-byte length (bytes after it), a
-- two-byte kind, a body.", "Taking one record off hands back the unread rest of the caller's buffer."
--     is_too_long s                 whether the length at the front of s is above the most
--     answers_in room outs n        the ANSWER behind these outputs, in an output of `room` bytes
--     Turning                       what is met, the world that is left, the bytes that are taken, the records that are written
--     waiting w, taking end room x            a turn that finds no whole record; one that takes a record of which the replica made x
--     turned_by f w room s, turned w room s   a turn, where f stands at the front of s
--     Left, laid_in x at have out   a turn laid into a buffer: the run, and every byte of the output
--     left_by                       what code hands back
use Rattle.std.specs.Prelude.{ℕ, ◌+◌, Bool, cond, List, [], ◌∷◌, ◌++◌, ltb, leb, length, drop}
use Rattle.certificates.specs.Num.{num_at}
use Rattle.certificates.specs.Error.{bad_record}
use Rattle.trace.specs.Record.{record_max, split_of, record_of}
use Rattle.trace.specs.declared.record.Front.{Front}
use Rattle.trace.specs.declared.record.Front.TheVariants.{End, Cut, Small, Record}
use Rattle.outputs.specs.Records.{Rec, answer, answer_size, enc_all}
use Rattle.synchronizer.specs.declared.table.Slot.{Slot}
use Rattle.replica.specs.Step.{World, Result, world, stepped}
use Rattle.turns.specs.declared.turn.Met.{Met}
use Rattle.turns.specs.declared.turn.Met.TheVariants.{Answered, More, TooLong}
use Rattle.turns.specs.declared.turn.Turned.{Turned}

-- "Length is 2 to 4,096."
abbrev pub is_too_long : List ℕ → Bool
is_too_long s = ltb record_max (num_at 2 s 0)

-- "ANSWER | number 2; added by the program after each event". In an output that has no room left for it there is none.
abbrev pub answers_in : ℕ → List Rec → ℕ → List Rec
answers_in room outs n = cond (leb (length (enc_all outs) + answer_size) room) (answer n ∷ []) []

pub record Turning : Type 0 where
  pub met : Met
  pub world : World
  pub taken : ℕ
  pub outs : List Rec

-- no whole record: nothing changes
abbrev pub waiting : World → Turning
waiting w = record { met = More; world = w; taken = 0; outs = [] }

-- a record that ends at `end`, and what the replica made of it
abbrev pub taking : ℕ → ℕ → Result → Turning
taking end room x = record { met = Answered; world = x.world; taken = end; outs = x.outs ++ answers_in room x.outs x.answer }

-- "A length above 4,096 or a record cut by the end gets ANSWER 16 and ends the run. Any other bad record gets 16 and the next is read." Whether
-- the input ends is not known here, so that a record of which a part is missing is waited for.
abbrev pub turned_by : Front → World → ℕ → List ℕ → Turning
turned_by End w room s = waiting w
turned_by Cut w room s =
    cond (is_too_long s) (record { met = TooLong; world = w; taken = 0; outs = answers_in room [] bad_record }) (waiting w)
turned_by (Small end) w room s = taking end room (stepped w room (record_of (Small end) s))
turned_by (Record kind end) w room s = taking end room (stepped w room (record_of (Record kind end) s))

unfoldable pub turned : World → ℕ → List ℕ → Turning
turned w room s = turned_by (split_of s) w room s

-- ---- every byte

pub record Left : Type 0 where
  pub met : Met
  pub world : World
  pub at : ℕ
  pub have : ℕ
  pub written : ℕ
  pub out : List ℕ

-- the bytes of the records, and past them what was there; `at` moves behind the record that was taken
unfoldable pub laid_in : Turning → ℕ → ℕ → List ℕ → Left
laid_in x at have out =
    record {
      met = x.met;
      world = x.world;
      at = at + x.taken;
      have = have;
      written = length (enc_all x.outs);
      out = enc_all x.outs ++ drop (length (enc_all x.outs)) out;
    }

abbrev pub left_by : Turned → List ℕ → List ℕ → List ℕ → List Slot → List ℕ → Left
left_by r stakes votes timeouts table out =
    record {
      met = r.met;
      world = world r.run.seat stakes r.run.core votes timeouts table;
      at = r.run.at;
      have = r.run.have;
      written = r.written;
      out = out;
    }
