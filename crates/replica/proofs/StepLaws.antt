-- What the code of the three parts did, put together: the room that each part asks for, and that what is left is the definition's.
-- Assumes nothing.
use Prim.Native.Nat.{ℕ, ◌+◌, ◌≤◌}
use mathlib.Core.Bool.{Bool, true, false, cond, true≢false}
use mathlib.Core.List.{List, [], ◌++◌}
use mathlib.Core.Path.{◌≡◌, refl, sym, ◌∙◌, ap}
use native.Mathlib.Omega.{arith}
use borrow.Author.Tests.{leb-true}
use lib.Dec.{eqb, ltb, leb}
use lib.ListN.{length, drop}
use Rattle.handlers.specs.Votes.{voting_most}
use Rattle.trace.specs.declared.events.Block.{Block}
use Rattle.trace.specs.Fields.{block_of}
use Rattle.outputs.specs.Records.{Rec, enc_all}
use Rattle.outputs.specs.Put.{Wrote}
use Rattle.outputs.proofs.Wrote.{all_none, wrote_then, wrote-length, wrote-start, wrote_count}
use Rattle.moves.specs.declared.state.Core.{Core}
use Rattle.moves.specs.State.{State, whole}
use Rattle.moves.specs.Outcome.{Outcome}
use Rattle.synchronizer.specs.declared.table.Slot.{Slot}
use Rattle.synchronizer.specs.declared.settle.Work.{Work}
use Rattle.synchronizer.specs.declared.settle.Settled.{Settled}
use Rattle.synchronizer.specs.Settle.{Settlement, settled_of, settle_most, RoomFor, Settles, is_store}
use Rattle.synchronizer.proofs.SettleLaws.{settled-anywhere, settled-silent}
use Rattle.replica.specs.declared.started.Seat.{Seat}
use Rattle.replica.specs.declared.stages.Begun.{Begun}
use Rattle.replica.specs.declared.stages.Stepped.{Stepped}
use Rattle.replica.specs.Started.{members_of, slots_max, room_for, roomy}
use Rattle.replica.specs.Step.{World, Result, Left, laid, world, left_by, stepped}
use Rattle.replica.specs.declared.stages.Does.{Does}
use Rattle.certificates.specs.Error.{number}
use Rattle.replica.specs.Stages.{Stage, staged_of, finished_of, is_block, task_of, work_at, stage_work, concluded, together, first_most, Ongoing, Begins, Finishable, Finishes}
use Rattle.replica.proofs.StageLaws.{stages-step}

-- ---- what the table is asked for

-- a block is asked for where there is one
store-block : (d : Does) (k : Block) → is_store (task_of d k) ≡ is_block d
store-block Does.Nothing k = refl
store-block Does.Clear k = refl
store-block Does.Block k = refl

block-is : (d : Does) → is_block d ≡ true → d ≡ Does.Block
block-is Does.Nothing e = absurd (true≢false (sym e))
block-is Does.Clear e = absurd (true≢false (sym e))
block-is Does.Block e = refl

-- the settlement does not depend on the place to write at
same-settled : (t : List Slot) (b : Begun) (g : Stage) (k : Block) → b.does ≡ g.does → b.core.last_committed_round ≡ g.out.left.state.core.last_committed_round
    → settled_of t (work_at b k) ≡ settled_of t (stage_work g k)
same-settled t b g k d l = rw (d, l) (settled-anywhere t (task_of g.does k) g.out.left.state.core.last_committed_round b.at 0)

-- ---- the room

-- a table within the limits has room for its output
room_of_lem : (slots room : ℕ) (a c : Bool) → cond a false (cond c false (leb (room_for slots) room)) ≡ true → room_for slots ≤ room
room_of_lem slots room true c e = absurd (true≢false (sym e))
room_of_lem slots room false true e = absurd (true≢false (sym e))
room_of_lem slots room false false e = leb-true (room_for slots) room e

pub roomy-has : (slots room : ℕ) → roomy slots room ≡ true → room_for slots ≤ room
unfolding roomy
roomy-has slots room e = room_of_lem slots room (eqb slots 0) (ltb slots_max slots) e

-- records that were written fit, if the place after them is within the buffer
laid_out : {k next : ℕ} {outs : List Rec} {before after : List ℕ} → Wrote k outs before 0 after next → next ≤ length before
    → after ≡ enc_all outs ++ drop (length (enc_all outs)) before
laid_out {outs = outs} w h = wrote-start {k = length (enc_all outs)} (record { place = w.place; stored = w.stored; room = omega (arith, w.place) }) (omega (arith, w.place, h))

-- ---- records, field by field

same_left : {a a' n n' : ℕ} {w w' : World} {o o' : List ℕ} → a ≡ a' → w ≡ w' → n ≡ n' → o ≡ o'
    → ◌≡◌ {A = Left} (record { answer = a; world = w; written = n; out = o }) (record { answer = a'; world = w'; written = n'; out = o' })
same_left e f h i = rw (e, f, h, i)

same-world : {c c' : Seat} {k k' : List ℕ} {s s' : State} {t t' : List Slot} → c ≡ c' → k ≡ k' → s ≡ s' → t ≡ t'
    → ◌≡◌ {A = World} (record { seat = c; stakes = k; state = s; table = t }) (record { seat = c'; stakes = k'; state = s'; table = t' })
same-world e f h i = rw (e, f, h, i)

module _ (seat : Seat) (stakes : List ℕ) (core : Core) (votes timeouts : List ℕ) (table : List Slot) (out r : List ℕ) (slots : ℕ) (n : slots ≡ length table)
    {b : Begun} {stakes' votes' timeouts' out₁ : List ℕ}
    (p : Begins (staged_of seat stakes (whole core votes timeouts) (roomy slots (length out)) r) (roomy slots (length out)) r out b stakes' votes' timeouts' out₁)
    {w : Work} (ask : w ≡ work_at b (block_of r)) where
  abbrev g : Stage
  g = staged_of seat stakes (whole core votes timeouts) (roomy slots (length out)) r

  long₁ : length out₁ ≡ length out
  long₁ = wrote-length p.did.bytes

  at-w : w.at ≡ b.at
  at-w = ap (λ (x : Work). x.at) ask

  store-w : is_store w.task ≡ is_block b.does
  store-w = ap (λ (x : Work). is_store x.task) ask ∙ store-block b.does (block_of r)

  pub settle-room : RoomFor w (length table) (length out₁)
  settle-room d =
      let q = p.going (block-is b.does (sym store-w ∙ d)) in
      omega (arith, at-w, long₁, n, roomy-has slots (length out) q.0, q.1.going.short)

  module _ {s : Settled} {table' : List Slot} {out₂ : List ℕ} (q : Settles (settled_of table w) (settle_most (length table)) out₁ w.at s table' out₂) where
    long₂ : length out₂ ≡ length out₁
    long₂ = wrote-length q.bytes

    finish-fits : b.does ≡ Does.Block → Ongoing b r stakes' votes' timeouts' × (s.at + voting_most ≤ length out₂)
    finish-fits d =
        let k = p.going d in
        (k.1, omega (arith, at-w, long₁, long₂, n, roomy-has slots (length out) k.0, k.1.going.short, q.bytes.room))

    pub finish-needs : Finishable b s r stakes' votes' timeouts' (length out₂)
    finish-needs = record { going = λ (d : b.does ≡ Does.Block). (finish-fits d).0; room = λ (d : b.does ≡ Does.Block). (finish-fits d).1 }

    -- ---- what is left

    -- the settlement, of the first part as it is defined
    abbrev settlement : Settlement
    settlement = settled_of table (stage_work g (block_of r))

    state-g : whole b.core votes' timeouts' ≡ g.out.left.state
    state-g = p.did.state

    settled-g : settled_of table w ≡ settlement
    settled-g = ap (settled_of table) ask ∙ same-settled table b g (block_of r) p.does (ap (λ (x : State). x.core.last_committed_round) state-g)

    -- what the first part leaves, as the last one is asked
    abbrev finished : Outcome
    finished =
        finished_of (members_of b.seat stakes') b.seat.own.0 (whole b.core votes' timeouts') b.does (number b.answer) (number s.answer) s.last.0 (block_of r)

    abbrev finishing : Outcome
    finishing =
        finished_of (members_of g.seat g.stakes) g.seat.own.0 g.out.left.state g.does g.out.answer settlement.answer settlement.last (block_of r)

    same-finished : finished ≡ finishing
    same-finished = rw (p.sits, p.held, state-g, p.does, p.answer, q.answer, q.last, settled-g)

    -- nothing is written past the buffer
    quiet-end : (z : Bool) → is_block b.does ≡ z → s.at ≤ length out
    quiet-end true e = omega (arith, (finish-fits (block-is b.does e)).1, long₁, long₂)
    quiet-end false e =
        let none : (settled_of table w).outs ≡ [] = settled-silent table w (store-w ∙ e) in
        let same : s.at ≡ w.at + length (enc_all []) = rw none at q.bytes.place in
        let empty : length (enc_all []) ≡ 0 = ap length all_none in
        omega (arith, same, empty, at-w, p.fits)

    module _ {x : Stepped} {votes'' timeouts'' out₃ : List ℕ} (f : Finishes finished voting_most b.seat out₂ s.at x votes'' timeouts'' out₃) where
      fits_by : (z : Bool) → is_block b.does ≡ z → x.written ≤ length out
      unfolding finished_of
      fits_by true e = omega (arith, (finish-fits (block-is b.does e)).1, long₁, long₂, f.did.bytes.room)
      fits_by false e =
          let same : x.written ≡ s.at + length (enc_all []) = rw e at f.did.bytes.place in
          let empty : length (enc_all []) ≡ 0 = ap length all_none in
          omega (arith, same, empty, quiet-end false e)

      written-fits : x.written ≤ length out
      written-fits = fits_by (is_block b.does) refl

      abbrev outs : List Rec
      outs = g.out.left.outs ++ (settlement.outs ++ finishing.left.outs)

      all-written : Wrote (first_most + (settle_most (length table) + voting_most)) outs out 0 out₃ x.written
      all-written = wrote_then p.did.bytes (wrote_then (rw at-w at (rw settled-g at q.bytes)) (rw same-finished at f.did.bytes))

      -- "outputs always fit 44*slots+2,048 bytes": 1,433 before the table, 112 and the COMMITs at it, 111 after it
      pub step_room : x.written ≤ room_for (length table)
      step_room = omega (arith, all-written.room)

      -- the definition's result
      result-g : stepped (world seat stakes core votes timeouts table) (length out) r ≡ concluded g (block_of r) settlement
      unfolding together
      result-g = sym (rw (← n) at (stages-step (world seat stakes core votes timeouts table) r (length out)))

      left-g : left_by x stakes' votes'' timeouts'' table' out₃ ≡ laid (concluded g (block_of r) settlement) out
      unfolding laid
      left-g =
          same_left
          (f.answer ∙ ap (λ (o : Outcome). o.answer) same-finished)
          (same-world (f.sits ∙ p.sits) p.held (f.did.state ∙ ap (λ (o : Outcome). o.left.state) same-finished)
          (q.slots ∙ ap (λ (d : Settlement). d.table) settled-g))
          (wrote_count all-written)
          (laid_out all-written written-fits)

      pub step_left : left_by x stakes' votes'' timeouts'' table' out₃ ≡ laid (stepped (world seat stakes core votes timeouts table) (length out) r) out
      step_left = left-g ∙ ap (λ (y : Result). laid y out) (sym result-g)
