-- An event whose record is a part of what is lent.
--     record_in order s           the record that an order names in the bytes s: fewer bytes where s ends before it does, none where it ends before it starts
--     order_for seat core n       the order for the whole of n bytes
use Rattle.std.specs.Prelude.{ℕ, List}
use Rattle.trace.specs.Part.{between}
use Rattle.moves.specs.declared.state.Core.{Core}
use Rattle.replica.specs.declared.started.Seat.{Seat}
use Rattle.replica.specs.declared.step.Order.{Order}

abbrev pub record_in : Order → List ℕ → List ℕ
record_in order s = between order.from order.to s

abbrev pub order_for : Seat → Core → ℕ → Order
order_for seat core n = record { seat = seat; core = core; from = 0; to = n }
