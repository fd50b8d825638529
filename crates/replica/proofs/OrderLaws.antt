-- The parts of an event on a record that is a part of what is lent: what they did on the part is what they do on the record, for the two are one.
--     begin-part, work-part, finish-part      what each did
--     finish-part-needs                       what the last one asks for
--     whole-record, whole-order               the order for the whole input names all of it, and its event is the whole input's
-- Assumes nothing.
use Prim.Native.Nat.{ℕ}
use mathlib.Core.Bool.{Bool}
use mathlib.Core.List.{List}
use mathlib.Core.Path.{◌≡◌, ◌∙◌}
use lib.ListN.{length}
use Rattle.trace.specs.Fields.{block_of}
use Rattle.trace.proofs.Parts.{all_after}
use Rattle.moves.specs.declared.state.Core.{Core}
use Rattle.moves.specs.State.{State}
use Rattle.synchronizer.specs.declared.table.Slot.{Slot}
use Rattle.synchronizer.specs.declared.settle.Work.{Work}
use Rattle.synchronizer.specs.declared.settle.Settled.{Settled}
use Rattle.replica.specs.declared.stages.Does.{Does}
use Rattle.replica.specs.declared.started.Seat.{Seat}
use Rattle.replica.specs.declared.stages.Begun.{Begun}
use Rattle.replica.specs.declared.stages.Stepped.{Stepped}
use Rattle.replica.specs.Stages.{staged_of, finished_of, work_at, Begins, Finishable, Finishes}
use Rattle.replica.specs.declared.step.Order.{Order}
use Rattle.replica.specs.Step.{Left, laid, world, stepped}
use Rattle.replica.specs.Order.{record_in, order_for}

module _ {part r : List ℕ} (e : part ≡ r) where
  pub begin-part : (seat : Seat) (stakes : List ℕ) (s : State) (room : Bool) {before stakes' votes' timeouts' after : List ℕ} {b : Begun}
      → Begins (staged_of seat stakes s room part) room part before b stakes' votes' timeouts' after
      → Begins (staged_of seat stakes s room r) room r before b stakes' votes' timeouts' after
  begin-part seat stakes s room p = rw (← e) p

  pub work-part : (b : Begun) {w : Work} → w ≡ work_at b (block_of part) → w ≡ work_at b (block_of r)
  work-part b p = rw (← e) p

  pub finish-part-needs : {b : Begun} {s : Settled} {stakes votes timeouts : List ℕ} {out : ℕ} → Finishable b s r stakes votes timeouts out
      → Finishable b s part stakes votes timeouts out
  finish-part-needs p = rw e p

  pub finish-part : (m : List ℕ) (own : ℕ) (s : State) (does : Does) (answer settled last : ℕ) {k at : ℕ} {seat : Seat} {before votes timeouts after : List ℕ} {x : Stepped}
      → Finishes (finished_of m own s does answer settled last (block_of part)) k seat before at x votes timeouts after
      → Finishes (finished_of m own s does answer settled last (block_of r)) k seat before at x votes timeouts after
  finish-part m own s does answer settled last p = rw (← e) p

pub whole-record : (seat : Seat) (core : Core) (s : List ℕ) → record_in (order_for seat core (length s)) s ≡ s
whole-record seat core s = all_after s 0

-- an event of the whole input is an event of the order for it
pub whole-order : (seat : Seat) (stakes : List ℕ) (core : Core) (votes timeouts : List ℕ) (table : List Slot) (out s : List ℕ) {d : Order} {x : Left} → d ≡ order_for seat core (length s)
    → x ≡ laid (stepped (world d.seat stakes d.core votes timeouts table) (length out) (record_in d s)) out
    → x ≡ laid (stepped (world seat stakes core votes timeouts table) (length out) s) out
whole-order seat stakes core votes timeouts table out s e p = p ∙ rw (e, whole-record seat core s)
