-- Calls of the public operation `step`, one after the other, as a host makes them.
--     Call               what a call was handed, and what it handed back; and whether the unit was unplugged after it, and put back
--     before c, left c   the same as a world, and as all that the definition speaks of
--     stage_of c         the stage of a course
--     Kept c             the contract of `step`, as it stands in the code, was kept
--     Played w cs        each of the calls cs kept it, the first was handed the world w, and every other one what the one before had left, or had left to be put back
--     laid_all xs os     results laid into buffers
--     written cs         the bytes that the calls wrote, in order
use Rattle.std.specs.Prelude.{ℕ, ◌≤◌, Bool, List, [], ◌∷◌, ◌++◌, ◌≡◌, length, take}
use Rattle.moves.specs.declared.state.Core.{Core}
use Rattle.synchronizer.specs.declared.table.Slot.{Slot}
use Rattle.replica.specs.declared.started.Seat.{Seat}
use Rattle.replica.specs.declared.stages.Stepped.{Stepped}
use Rattle.replica.specs.Started.{room_for}
use Rattle.replica.specs.Step.{World, Result, Left, laid, world, left_by, stepped}
use Rattle.runs.specs.Courses.{Stage, leaves}

-- the primed fields are the lent memory once the call is over
pub record Call : Type 0 where
  pub seat : Seat
  pub core : Core
  pub stakes : List ℕ
  pub votes : List ℕ
  pub timeouts : List ℕ
  pub table : List Slot
  pub out : List ℕ
  pub input : List ℕ
  pub gives : Stepped
  pub stakes' : List ℕ
  pub votes' : List ℕ
  pub timeouts' : List ℕ
  pub table' : List Slot
  pub out' : List ℕ
  pub cut : Bool

abbrev pub before : Call → World
before c = world c.seat c.stakes c.core c.votes c.timeouts c.table

abbrev pub left : Call → Left
left c = left_by c.gives c.stakes' c.votes' c.timeouts' c.table' c.out'

abbrev pub stage_of : Call → Stage
stage_of c = record { event = record { room = length c.out; bytes = c.input }; cut = c.cut }

pub record Kept (c : Call) : Type 0 where
  pub left_is : left c ≡ laid (stepped (before c) (length c.out) c.input) c.out
  pub fits : c.gives.written ≤ room_for (length c.table)

unfoldable pub Played : World → List Call → Type 0
Played w [] = Unit {0}
Played w (c ∷ cs) = (before c ≡ w) × Kept c × Played (leaves (stage_of c) (left c).world) cs

unfoldable pub laid_all : List Result → List (List ℕ) → List Left
laid_all [] os = []
laid_all (x ∷ xs) [] = []
laid_all (x ∷ xs) (o ∷ os) = laid x o ∷ laid_all xs os

unfoldable pub written : List Call → List ℕ
written [] = []
written (c ∷ cs) = take c.gives.written c.out' ++ written cs
