-- What the code of the three parts did over a record by value, put together: `replica`'s laws, at the fields. Assumes nothing.
--     ask-room, close-needs           the room that the table and the last part ask for
--     handed-left, handed-room        what is left is the definition's
use Prim.Native.Nat.{ℕ, ◌≤◌}
use mathlib.Core.List.{List}
use mathlib.Core.Path.{◌≡◌}
use lib.ListN.{length}
use Rattle.trace.specs.Fields.{block_of}
use Rattle.synchronizer.specs.declared.table.Slot.{Slot}
use Rattle.synchronizer.specs.declared.settle.Work.{Work}
use Rattle.synchronizer.specs.declared.settle.Settled.{Settled}
use Rattle.synchronizer.specs.Settle.{settled_of, settle_most, RoomFor, Settles}
use Rattle.replica.specs.Started.{room_for}
use Rattle.replica.specs.Step.{laid, stepped}
use Rattle.replica.specs.Stages.{work_at}
use Rattle.replica.proofs.StepLaws.{settle-room, finish-needs, step_room, step_left}
use Rattle.owned.specs.declared.record.Replica.{Replica}
use Rattle.owned.specs.declared.record.Handed.{Handed}
use Rattle.owned.specs.declared.stages.Opened.{Opened}
use Rattle.owned.specs.Record.{world_of, handed_left}
use Rattle.owned.specs.Stages.{Opens, Closable, Closes}

module _ (r : Replica) (table : List Slot) (out input : List ℕ) (slots : ℕ) (n : slots ≡ length table) {o : Opened} {out₁ : List ℕ} (p : Opens r slots input out o out₁)
    {w : Work} (ask : w ≡ work_at o.begun (block_of input)) where
  pub ask-room : RoomFor w (length table) (length out₁)
  ask-room = settle-room r.seat r.stakes r.core r.votes r.timeouts table out input slots n p ask

  module _ {s : Settled} {table' : List Slot} {out₂ : List ℕ} (q : Settles (settled_of table w) (settle_most (length table)) out₁ w.at s table' out₂) where
    pub close-needs : Closable o s input (length out₂)
    close-needs = finish-needs r.seat r.stakes r.core r.votes r.timeouts table out input slots n p ask q

    module _ {h : Handed} {out₃ : List ℕ} (f : Closes o s input out₂ h out₃) where
      pub handed-left : handed_left h table' out₃ ≡ laid (stepped (world_of r table) (length out) input) out
      handed-left = rw f.held (step_left r.seat r.stakes r.core r.votes r.timeouts table out input slots n p ask q f.done)

      pub handed-room : h.written ≤ room_for (length table)
      handed-room = step_room r.seat r.stakes r.core r.votes r.timeouts table out input slots n p ask q f.done
