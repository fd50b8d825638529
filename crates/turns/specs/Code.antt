-- How the code goes about a turn: what stands at the front, an event, and the ANSWER. `proofs.TurnLaws` shows that the three together are
-- `turned`.
--     cut_met s                 what is met where the front s is cut
--     none_at met at, one_at at end     no record; a record that ends `end` bytes after `at`
--     ahead_by f at s, ahead_of at s    what is met, and where the record lies, in a buffer in which the front s begins at `at`
--     order_at run ahead       the event that the replica is asked for
--     closing met x room        the ANSWER that is written behind what an event wrote
--     Closes                    what the code did that writes it
use Rattle.std.specs.Prelude.{ℕ, ◌+◌, cond, List, [], ◌∷◌, ◌≡◌, leb, length}
use Rattle.trace.specs.Record.{split_of}
use Rattle.trace.specs.declared.record.Front.{Front}
use Rattle.trace.specs.declared.record.Front.TheVariants.{End, Cut, Small, Record}
use Rattle.outputs.specs.Records.{Rec, answer, answer_size}
use Rattle.outputs.specs.Put.{Wrote}
use Rattle.certificates.specs.Error.{number}
use Rattle.replica.specs.declared.stages.Stepped.{Stepped}
use Rattle.replica.specs.declared.step.Order.{Order}
use Rattle.turns.specs.Turn.{is_too_long}
use Rattle.turns.specs.declared.turn.Met.{Met}
use Rattle.turns.specs.declared.turn.Met.TheVariants.{Answered, More, TooLong}
use Rattle.turns.specs.declared.turn.Run.{Run}
use Rattle.turns.specs.declared.turn.Turned.{Turned}
use Rattle.turns.specs.declared.turn.Ahead.{Ahead}

abbrev pub cut_met : List ℕ → Met
cut_met s = cond (is_too_long s) TooLong More

-- no record: an empty one
abbrev pub none_at : Met → ℕ → Ahead
none_at met at = record { met = met; from = at; to = at }

abbrev pub one_at : ℕ → ℕ → Ahead
one_at at end = record { met = Answered; from = at + 2; to = at + end }

abbrev pub ahead_by : Front → ℕ → List ℕ → Ahead
ahead_by End at s = none_at More at
ahead_by Cut at s = none_at (cut_met s) at
ahead_by (Small end) at s = one_at at end
ahead_by (Record kind end) at s = one_at at end

unfoldable pub ahead_of : ℕ → List ℕ → Ahead
ahead_of at s = ahead_by (split_of s) at s

abbrev pub order_at : Run → Ahead → Order
order_at run ahead = record { seat = run.seat; core = run.core; from = ahead.from; to = ahead.to }

abbrev pub closing : Met → Stepped → ℕ → List Rec
closing Answered x room = cond (leb (x.written + answer_size) room) (answer (number x.answer) ∷ []) []
closing More x room = []
closing TooLong x room = cond (leb (x.written + answer_size) room) (answer (number x.answer) ∷ []) []

pub record Closes (run : Run) (ahead : Ahead) (x : Stepped) (before : List ℕ) (r : Turned) (after : List ℕ) : Type 0 where
  pub next : r.run ≡ record { seat = x.seat; core = x.core; at = ahead.to; have = run.have }
  pub met : r.met ≡ ahead.met
  pub wrote : Wrote answer_size (closing ahead.met x (length before)) before x.written after r.written
