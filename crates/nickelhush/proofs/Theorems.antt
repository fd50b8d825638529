-- What follows from the definition of a hosted step. Assumes nothing.
--     host-unique                  the contract permits one outcome
--     answer-of, written_of        a result holds its answer and its count: what `nickelhush_answer` and `nickelhush_written` give back
--     host-as-step                 memory of the right lengths: what 01 says of the world that it holds
--     host-past                    "Output bytes past the written count never change."
--     unfit-unchanged, unfit-as-unsized    a seat or a core of another length: nothing changes, and the answer is that of stakes of another length
--     new-not-started              zeros count as not started
use Prim.Native.Nat.{ℕ, ◌/◌, ◌%◌, ◌<◌}
use mathlib.Core.Bool.{Bool, true, false}
use mathlib.Core.List.{List}
use mathlib.Core.Path.{◌≡◌, refl, sym, ◌∙◌}
use native.Mathlib.Omega.{arith}
use lib.ListN.{length, drop, replicate}
use Rattle.std.specs.Prelude.{Option, None, Some}
use Rattle.trace.specs.declared.events.Kind.{Kind}
use Rattle.trace.specs.Form.{form_of}
use Rattle.synchronizer.specs.declared.table.Slot.{Slot}
use Rattle.replica.specs.Started.{roomy, shaped, started_of}
use Rattle.replica.specs.Step.{World, laid, stepped, started, sized_in, on_kind, on_other, on_start}
use Rattle.replica.proofs.Theorems.{past-unchanged}
use Rattle.nickelhush.specs.Memory.{fit, Lent, lent, world_of, packed, Handed, handed_by, unfit_answer, hosted}

-- two outcomes that the contract permits are one
pub host-unique : {a b : Handed} (m : Lent) (r : List ℕ) → a ≡ hosted m r → b ≡ hosted m r → a ≡ b
host-unique m r p q = p ∙ sym q

-- the two parts of a result
pub answer-of : (answer written : ℕ) → answer < 65536 → packed answer written % 65536 ≡ answer
answer-of answer written l = omega (arith, l)

pub written_of : (answer written : ℕ) → answer < 65536 → packed answer written / 65536 ≡ written
written_of answer written l = omega (arith, l)

module _ (m : Lent) (r : List ℕ) where
  module _ (f : fit (length m.seat) (length m.core) ≡ true) where
    pub host-as-step : hosted m r ≡ handed_by (laid (stepped (world_of m) (length m.out) r) m.out)
    unfolding hosted
    host-as-step = rw f

    -- the bytes past the written count are those that were there
    pub host-past : drop (laid (stepped (world_of m) (length m.out) r) m.out).written (hosted m r).left.out ≡ drop (laid (stepped (world_of m) (length m.out) r) m.out).written m.out
    unfolding handed_by
    host-past = rw host-as-step (past-unchanged (stepped (world_of m) (length m.out) r) m.out)

  pub unfit-unchanged : fit (length m.seat) (length m.core) ≡ false → (hosted m r).left ≡ m
  unfolding hosted
  unfit-unchanged f = rw f

-- stakes, votes or timeouts of another length get the same answers
pub unfit-as-unsized : (w : World) (room : ℕ) (r : List ℕ) → started w ≡ None → sized_in w ≡ false → (stepped w room r).answer ≡ unfit_answer (form_of r)
unfolding stepped
unfit-as-unsized w room r s z = by_kind (form_of r)
  where
    of_room : (t : Bool) → roomy (length w.table) room ≡ t → (on_start w room r (started w)).answer ≡ unfit_answer (Some Kind.Start)
    of_room true h = rw (s, h, z)
    of_room false h = rw (s, h)

    of-start : (on_start w room r (started w)).answer ≡ unfit_answer (Some Kind.Start)
    of-start = of_room (roomy (length w.table) room) refl

    of_other : (k : Kind) → (on_other w room r k (started w)).answer ≡ 33
    of_other k = rw s

    by_kind : (k : Option Kind) → (on_kind w room r k).answer ≡ unfit_answer k
    by_kind None = refl
    by_kind (Some Kind.Start) = of-start
    by_kind (Some Kind.Propose) = of_other Kind.Propose
    by_kind (Some Kind.Vote) = of_other Kind.Vote
    by_kind (Some Kind.Timeout) = of_other Kind.Timeout
    by_kind (Some Kind.Tc) = of_other Kind.Tc
    by_kind (Some Kind.Loopback) = of_other Kind.Loopback
    by_kind (Some Kind.Tick) = of_other Kind.Tick

-- what `nickelhush_new` leaves counts as not started, whatever the table
pub new-not-started : (core stakes votes timeouts : List ℕ) (table : List Slot) (out : List ℕ) → started (world_of (lent (replicate 2 0) core stakes votes timeouts table out)) ≡ None
unfolding started_of shaped
new-not-started core stakes votes timeouts table out = refl
