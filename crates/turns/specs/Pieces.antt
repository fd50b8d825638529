-- A trace that is read in pieces: turns until there is no whole record at the front, then the next piece.
--     Played                    whether the run is over, the world that is left, what was read and not taken, the records that were written
--     onward_by met t s y, onward t s y     a turn t at the front of s, and then y
--     played_in n w room s      turns at the front of s, n at most
--     played_of w room s        turns until there is no whole record. A record takes 2 bytes or more, so that as many turns as there are bytes are enough
--     fed_of w room s ps        what is written where s is left of what was read and the pieces ps are still to come
use Rattle.std.specs.Prelude.{ℕ, zero, suc, Bool, true, false, cond, List, [], ◌∷◌, ◌++◌, eqb, length, drop}
use Rattle.certificates.specs.Error.{bad_record}
use Rattle.outputs.specs.Records.{Rec, answer}
use Rattle.replica.specs.Step.{World}
use Rattle.turns.specs.Turn.{Turning, turned}
use Rattle.turns.specs.declared.turn.Met.{Met}
use Rattle.turns.specs.declared.turn.Met.TheVariants.{Answered, More, TooLong}

pub record Played : Type 0 where
  pub over : Bool
  pub world : World
  pub rest : List ℕ
  pub outs : List Rec

-- a record that was taken, and what follows; where none was taken, the turns end, and the run too if the length is above the most
abbrev pub onward_by : Met → Turning → List ℕ → Played → Played
onward_by Answered t s y = record { over = y.over; world = y.world; rest = y.rest; outs = t.outs ++ y.outs }
onward_by More t s y = record { over = false; world = t.world; rest = s; outs = t.outs }
onward_by TooLong t s y = record { over = true; world = t.world; rest = s; outs = t.outs }

abbrev pub onward : Turning → List ℕ → Played → Played
onward t s y = onward_by t.met t s y

unfoldable pub played_in : ℕ → World → ℕ → List ℕ → Played
played_in zero w room s = record { over = false; world = w; rest = s; outs = [] }
played_in (suc n) w room s = onward (turned w room s) s (played_in n (turned w room s).world room (drop (turned w room s).taken s))

unfoldable pub played_of : World → ℕ → List ℕ → Played
played_of w room s = played_in (length s) w room s

-- "a record cut by the end gets ANSWER 16 and ends the run": where no piece is left, anything that is left of what was read is such a record
unfoldable pub fed_of : World → ℕ → List ℕ → List (List ℕ) → List Rec
fed_of w room s [] = cond (eqb (length s) 0) [] (answer bad_record ∷ [])
fed_of w room s (p ∷ ps) =
    (played_of w room (s ++ p)).outs
    ++ cond (played_of w room (s ++ p)).over [] (fed_of (played_of w room (s ++ p)).world room (played_of w room (s ++ p)).rest ps)
