-- 01, the block table as a list of slots, and a block's ancestors in it.
--     blank                  a slot that holds nothing: all zeros
--     slot_at t i            the slot at place i, and the blank one past the end
--     fits s w               whether the slot s is one that is looked for
--     lowest t w             the place of the lowest slot that fits, and the length of t where none does
--     found_in t w           that place, where one fits (`found-lowest` of proofs/TableLaws.antt)
--     place_of t b           where the block b is stored, and past the end where there is no place
--     stored t b             the table once b is stored, and t where there is no place
--     store_answer i n       what a store at place i of n slots answers
--     cleared t              t with every slot blank
--     genesis                the genesis block
--     found_at t i           the slot that was found at place i, and none past the end
--     parent_of t b          the parent of the block b
--     slot_in p              the block that was found, and the blank slot where none was
--     b1_of t b, b0_of t b   the parent and the grandparent of the block b, and the blank slot where there is none
--     ancestors_of t b       both, or why there are not both
--     found_number a         the number that says whether there are
use Rattle.std.specs.Prelude.{ℕ, suc, Bool, true, false, not, cond, List, [], ◌∷◌, ltb, length, get_or, set, replicate, Option, Some, None, unwrap_or, position, Result, Ok, Err}
use Rattle.certificates.specs.Numbers.{zero_hash, same_hash}
use Rattle.certificates.specs.Messages.{is_genesis}
use Rattle.synchronizer.specs.declared.table.Slot.{Slot}
use Rattle.synchronizer.specs.declared.table.Want.{Want}
use Rattle.synchronizer.specs.declared.table.Want.TheVariants.{Any, Free, Digest}
use Rattle.synchronizer.specs.declared.ancestors.Ancestors.{Ancestors}
use Rattle.certificates.specs.declared.error.Refusal.{Refusal}
use Rattle.certificates.specs.declared.error.Refusal.TheVariants.{WaitParent, AncestorAbsent}
use Rattle.certificates.specs.Error.{done, table_full, code}

-- "a dropped one becomes all zeros"
abbrev pub blank : Slot
blank = record { used = false; digest = zero_hash; round = record { 0 = 0 }; parent = zero_hash; parent_round = record { 0 = 0 } }

abbrev pub slot_at : List Slot → ℕ → Slot
slot_at t i = get_or t i blank

-- ---- looking

-- "Each slot and tally carries its own used mark; only used ones are looked up, and a zero digest is a digest like any other."
unfoldable pub fits : Slot → Want → Bool
fits s Any = true
fits s Free = not s.used
fits s (Digest h) = cond s.used (same_hash s.digest h) false

-- "New blocks and tallies take the lowest free place, lookups the lowest match"
unfoldable pub lowest : List Slot → Want → ℕ
lowest [] w = 0
lowest (s ∷ t) w = cond (fits s w) 0 (suc (lowest t w))

abbrev pub found_in : List Slot → Want → Option ℕ
found_in t w = position (λ s. fits s w) t

-- ---- storing

-- "Store, replacing an equal digest."
unfoldable pub place_of : List Slot → Slot → ℕ
place_of t b = cond (ltb (lowest t (Digest b.digest)) (length t)) (lowest t (Digest b.digest)) (lowest t Free)

unfoldable pub stored : List Slot → Slot → List Slot
stored t b = set t (place_of t b) b

-- "28 | new digest, no empty slot"
abbrev pub store_answer : ℕ → ℕ → ℕ
store_answer i n = cond (ltb i n) 0 table_full

-- START: "tallies and table empty"
unfoldable pub cleared : List Slot → List Slot
cleared t = replicate (length t) blank

-- ---- ancestors

abbrev pub genesis : Slot
genesis = record { used = true; digest = zero_hash; round = record { 0 = 0 }; parent = zero_hash; parent_round = record { 0 = 0 } }

abbrev pub found_at : List Slot → ℕ → Option Slot
found_at t i = cond (ltb i (length t)) (Some (slot_at t i)) None

-- "parent b1 (genesis if the block's QC equals genesis, else by QC hash)"
unfoldable pub parent_of : List Slot → Slot → Option Slot
parent_of t b = cond (is_genesis b.parent b.parent_round.0) (Some genesis) (found_at t (lowest t (Digest b.parent)))

abbrev pub slot_in : Option Slot → Slot
slot_in p = unwrap_or p blank

abbrev pub b1_of : List Slot → Slot → Slot
b1_of t b = slot_in (parent_of t b)

abbrev pub b0_of : List Slot → Slot → Slot
b0_of t b = slot_in (parent_of t (b1_of t b))

-- "if absent, SYNC and WAIT PARENT. b0 likewise from b1, but absent gives 30 and no SYNC; genesis is its own parent."
abbrev pub ancestors_by : Option Slot → Option Slot → Result Ancestors Refusal
ancestors_by None p0 = Err WaitParent
ancestors_by (Some b1) None = Err AncestorAbsent
ancestors_by (Some b1) (Some b0) = Ok (record { b0 = b0; b1 = b1 })

unfoldable pub ancestors_of : List Slot → Slot → Result Ancestors Refusal
ancestors_of t b = ancestors_by (parent_of t b) (parent_of t (b1_of t b))

abbrev pub found_number : Result Ancestors Refusal → ℕ
found_number (Ok a) = done
found_number (Err r) = code r
