-- 01, Bench readings: the walks, computed.
--     walk-readings     "Last committed 0, chain 1,2,3, b0 at 3: delivers 1,2,3", "Last committed 1, b0 at 4 on parent 1: delivers 4", and more:
--                       a chain with gaps, 1,3,5; "committing genesis when the first commit is above round 1"; an absent parent; a parent that is not below its child
-- Assumes nothing.
use mathlib.Core.Path.{◌≡◌, refl, sym}
use Prim.Native.Nat.{ℕ}
use mathlib.Core.Bool.{true, false}
use mathlib.Core.List.{[], ◌∷◌}
use Rattle.certificates.specs.declared.numbers.Hash.{Hash}
use Rattle.certificates.specs.Messages.{is_genesis}
use Rattle.certificates.proofs.MessageLaws.{genesis-round, genesis-other}
use Rattle.synchronizer.specs.declared.table.Slot.{Slot}
use Rattle.certificates.specs.Error.{ancestor_absent, round_not_below}
use Rattle.synchronizer.specs.Table.{fits, lowest, parent_of}
use Rattle.synchronizer.specs.Walk.{refused, delivers, on_parent, walk_from, walk_of}

-- the block of a round on that of another, its digest the round
abbrev pub named : ℕ → Hash
named r = record { a = r; b = 0; c = 0; d = 0 }

abbrev pub block : ℕ → ℕ → Slot
block r p = record { used = true; digest = named r; round = record { 0 = r }; parent = named p; parent_round = record { 0 = p } }

-- the first block is on genesis, and no other is
on-genesis : is_genesis (named 0) 0 ≡ true
on-genesis = sym (genesis-round (named 0) 0 refl refl)

on_one : is_genesis (named 1) 1 ≡ false
on_one = sym (genesis-other (named 1) 1 refl refl)

on-two : is_genesis (named 2) 2 ≡ false
on-two = sym (genesis-other (named 2) 2 refl refl)

on-three : is_genesis (named 3) 3 ≡ false
on-three = sym (genesis-other (named 3) 3 refl refl)

on-four : is_genesis (named 4) 4 ≡ false
on-four = sym (genesis-other (named 4) 4 refl refl)

pub walk-readings :
    (walk_of (block 1 0 ∷ block 2 1 ∷ block 3 2 ∷ []) (block 3 2) 0 ≡ delivers (block 1 0 ∷ block 2 1 ∷ block 3 2 ∷ []))
    × ((walk_of (block 1 0 ∷ block 4 1 ∷ []) (block 4 1) 1 ≡ delivers (block 4 1 ∷ []))
    × ((walk_of (block 5 3 ∷ block 3 1 ∷ block 1 0 ∷ []) (block 5 3) 0 ≡ delivers (block 1 0 ∷ block 3 1 ∷ block 5 3 ∷ []))
    × ((walk_of (block 2 0 ∷ []) (block 2 0) 0 ≡ delivers (block 2 0 ∷ []))
    × ((walk_of (block 1 0 ∷ block 4 3 ∷ []) (block 4 3) 0 ≡ refused ancestor_absent)
    × (walk_of (block 3 4 ∷ block 4 3 ∷ []) (block 4 3) 0 ≡ refused round_not_below)))))
unfolding walk_of walk_from on_parent parent_of lowest fits
walk-readings = (rw (on-two, on_one), (rw on_one, (rw (on-three, on_one), (rw on-genesis, (rw on-three, rw (on-three, on-four))))))
