-- 01, Numbers the host sees, the column "Kept": what is kept of a block that comes to the table of blocks t, a row for each answer. w is the block
-- that comes. A row says the answer, the table, last committed and the records written, so what is not in it did not happen.
--     waiting, no_place, no_b0, stopped_by n, linked   the rows
--     Keeps t w p                                      p is one of them
use Rattle.std.specs.Prelude.{ℕ, List, [], ◌∷◌, ◌⊎◌, ◌≡◌}
use Rattle.certificates.specs.Error.{wait_parent, table_full, ancestor_absent, round_not_below}
use Rattle.outputs.specs.Records.{sync}
use Rattle.synchronizer.specs.declared.table.Slot.{Slot}
use Rattle.synchronizer.specs.declared.settle.Arrival.{Arrival}
use Rattle.synchronizer.specs.Table.{stored, b0_of, b1_of}
use Rattle.synchronizer.specs.Settle.{Settlement, answered, clean_of, linked_of}

-- "if absent, SYNC and WAIT PARENT"
abbrev pub waiting : List Slot → Arrival → Settlement
waiting t w = answered wait_parent t w.last.0 (sync w.block.parent w.block.digest w.author.0 ∷ [])

-- "28 | new digest, no empty slot | late: certificates taken; block not stored"
abbrev pub no_place : List Slot → Arrival → Settlement
no_place t w = answered table_full t w.last.0 []

-- "30 | b0 .. absent | late"
abbrev pub no_b0 : List Slot → Arrival → Settlement
no_b0 t w = answered ancestor_absent t w.last.0 []

-- 30 and 31 "in the walk, block stored, nothing committed"
abbrev pub stopped_by : ℕ → List Slot → Arrival → Settlement
stopped_by n t w =
    answered n (stored t w.block) w.last.0 (clean_of (b0_of t w.block) (b1_of t w.block) w.block)

-- a block that is stored, with what its commit delivers
abbrev pub linked : List Slot → Arrival → Settlement
linked t w = linked_of (stored t w.block) w.block (b0_of t w.block) (b1_of t w.block) w.last.0

abbrev pub Keeps : List Slot → Arrival → Settlement → Type 0
Keeps t w p =
    (p ≡ waiting t w)
    ⊎ ((p ≡ no_place t w) ⊎ ((p ≡ no_b0 t w) ⊎ ((p ≡ stopped_by ancestor_absent t w) ⊎ ((p ≡ stopped_by round_not_below t w) ⊎ ((p ≡ linked t w) × (p.answer ≡ 0))))))
