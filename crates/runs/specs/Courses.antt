-- The course of one replica: a START that was taken, and then any events, refused ones too. Each is a step of the definition, from the record and the table that the
-- one before left. After any of them the replica may be unplugged and put back (02, W3). A run that is never restarted is a course without a cut.
--     Stage               an event that was saved, and whether a cut came after it
--     put_back w          the replica put back from the image of the world w
--     leaves s w          the world after a stage whose event left the world w
--     next w s            the world after the stage s, from the world w on
--     results w ss        what the event of each of the stages ss gives, from the world w on
--     world_after w ss    the world that they leave
--     outs_of w ss        all that they write, in order
--     Course              a course; `stages` of it are those after START
--     origin, end, outputs c    the world that START left, the world at the end, all that is written
--     uncut es            events after none of which there is a cut
--     Moment c            a stage of the course c, with what came before it
--     up_to c ss          the course c as far as the stages ss
--     event_at, found_at, given_at m  its event, the world that the event finds, what it gives
--     bytes_at, kind_at, block_at m   the event's bytes, its kind, and the block in them where its kind has one
-- An event that was not saved left nothing, and stands in no course. The TIMER RESET of a restart is left out.
use Rattle.std.specs.Prelude.{ℕ, Bool, false, cond, List, [], ◌∷◌, ◌++◌, ◌≡◌, replicate, Option}
use Rattle.trace.specs.declared.events.Kind.{Kind}
use Rattle.trace.specs.declared.events.Block.{Block}
use Rattle.trace.specs.Form.{form_of}
use Rattle.trace.specs.Fields.{block_of}
use Rattle.outputs.specs.Records.{Rec}
use Rattle.aggregator.specs.Tallies.{votes_length, timeouts_length}
use Rattle.synchronizer.specs.Table.{cleared}
use Rattle.moves.specs.State.{State, whole}
use Rattle.replica.specs.Step.{World, Result}
use Rattle.runs.specs.Runs.{Event, step_on, Begun}

pub record Stage : Type 0 where
  pub event : Event
  pub cut : Bool

-- "Tallies and the table start empty"
abbrev pub emptied : State → State
emptied s = whole s.core (replicate votes_length 0) (replicate timeouts_length 0)

-- "A restart takes the image saved last, with the same committee and own place." The image is round, last voted, last committed and high QC.
abbrev pub put_back : World → World
put_back w = record { seat = w.seat; stakes = w.stakes; state = emptied w.state; table = cleared w.table }

abbrev pub leaves : Stage → World → World
leaves s w = cond s.cut (put_back w) w

-- what its event leaves, once it is put back if there was a cut
abbrev pub next : World → Stage → World
next w s = leaves s (step_on w s.event).world

unfoldable pub results : World → List Stage → List Result
results w [] = []
results w (s ∷ ss) = step_on w s.event ∷ results (next w s) ss

unfoldable pub world_after : World → List Stage → World
world_after w [] = w
world_after w (s ∷ ss) = world_after (next w s) ss

unfoldable pub outs_of : World → List Stage → List Rec
outs_of w [] = []
outs_of w (s ∷ ss) = (step_on w s.event).outs ++ outs_of (next w s) ss

-- `lent` is the memory as it was before START
pub record Course : Type 0 where
  pub lent : World
  pub start : Event
  pub begun : Begun lent start
  pub stages : List Stage

abbrev pub origin : Course → World
origin c = (step_on c.lent c.start).world

abbrev pub end : Course → World
end c = world_after (origin c) c.stages

abbrev pub outputs : Course → List Rec
outputs c = (step_on c.lent c.start).outs ++ outs_of (origin c) c.stages

-- a run that is never restarted
unfoldable pub uncut : List Event → List Stage
uncut [] = []
uncut (e ∷ es) = record { event = e; cut = false } ∷ uncut es

-- ---- moments

pub record Moment (c : Course) : Type 0 where
  pub past : List Stage
  pub stage : Stage
  pub rest : List Stage
  pub is : c.stages ≡ past ++ (stage ∷ rest)

abbrev pub up_to : Course → List Stage → Course
up_to c ss = record { lent = c.lent; start = c.start; begun = c.begun; stages = ss }

abbrev pub event_at : {c : Course} → Moment c → Event
event_at m = m.stage.event

abbrev pub found_at : {c : Course} → Moment c → World
found_at {c} m = end (up_to c m.past)

abbrev pub given_at : {c : Course} → Moment c → Result
given_at m = step_on (found_at m) (event_at m)

abbrev pub bytes_at : {c : Course} → Moment c → List ℕ
bytes_at m = (event_at m).bytes

abbrev pub kind_at : {c : Course} → Moment c → Option Kind
kind_at m = form_of (bytes_at m)

abbrev pub block_at : {c : Course} → Moment c → Block
block_at m = block_of (bytes_at m)
