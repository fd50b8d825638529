-- 01, Bench readings: the P rows on the commit walk and on the vote rule with a TC, in one table under one theorem. (Those on totals, leader, signers
-- and genesis are `certificates` Bench.) Computed from the definitions. Assumes nothing.
--     Reading            a row: a walk and what it delivers, or a block and whether it is voted for
--     Met r              the definitions say what the row says
--     table              the rows
--     readings           every row is met
use Prim.Native.Nat.{ℕ}
use mathlib.Core.Bool.{Bool, true, false}
use mathlib.Core.List.{List, [], ◌∷◌}
use mathlib.Core.Path.{◌≡◌, ap}
use lib.ListN.{get_or}
use Rattle.certificates.specs.Error.{ancestor_absent, round_not_below}
use Rattle.synchronizer.specs.declared.table.Slot.{Slot}
use Rattle.synchronizer.specs.Walk.{Walk, refused, delivers, walk_of}
use Rattle.synchronizer.proofs.Cases.{block, walk-readings}
use Rattle.handlers.specs.Votes.{may_vote}
use Rattle.handlers.proofs.Cases.{core_after, block_on, votes-by-rule}

-- `walks t b last w`: from b in the table t, where `last` is the last committed round. `votes last qc v`: "Block round 5, TC round 4 with high rounds
-- 1,2,3" and a QC of round qc, for a replica that voted last in the round `last`.
pub data Reading : Type 0 where
  walks : List Slot → Slot → ℕ → Walk → Reading
  votes : ℕ → ℕ → Bool → Reading

abbrev pub Met : Reading → Type 0
Met (walks t b last w) = walk_of t b last ≡ w
Met (votes last qc v) = may_vote (core_after last) (block_on qc) ≡ v

abbrev pub AllMet : List Reading → Type 0
AllMet [] = Unit {0}
AllMet (r ∷ rs) = Met r × AllMet rs

abbrev pub table : List Reading
table =
    -- "Last committed 0, chain 1,2,3, b0 at 3: delivers 1,2,3 (Rust: 2,1,3)."
    walks (block 1 0 ∷ block 2 1 ∷ block 3 2 ∷ []) (block 3 2) 0 (delivers (block 1 0 ∷ block 2 1 ∷ block 3 2 ∷ []))
    -- "Last committed 1, b0 at 4 on parent 1: delivers 4 (Rust: 1,4)."
    ∷ walks (block 1 0 ∷ block 4 1 ∷ []) (block 4 1) 1 (delivers (block 4 1 ∷ []))
    -- "Block round 5, TC round 4 with high rounds 1,2,3: QC round 3 voted, 2 not."
    ∷ votes 4 3 true
    ∷ votes 4 2 false
    -- beside 01's: a chain with gaps; a first commit above round 1; an absent parent; a parent not below its child; the QC rule; a round voted in
    ∷ walks (block 5 3 ∷ block 3 1 ∷ block 1 0 ∷ []) (block 5 3) 0 (delivers (block 1 0 ∷ block 3 1 ∷ block 5 3 ∷ []))
    ∷ walks (block 2 0 ∷ []) (block 2 0) 0 (delivers (block 2 0 ∷ []))
    ∷ walks (block 1 0 ∷ block 4 3 ∷ []) (block 4 3) 0 (refused ancestor_absent)
    ∷ walks (block 3 4 ∷ block 4 3 ∷ []) (block 4 3) 0 (refused round_not_below)
    ∷ votes 4 4 true
    ∷ votes 5 3 false
    ∷ []

-- Every row of the table is what the definitions say.
pub readings : AllMet table
readings =
    (walk-readings.0, (walk-readings.1.0, (ap (λ (vs : List Bool). get_or vs 0 false) votes-by-rule, (ap (λ (vs : List Bool). get_or vs 1 false) votes-by-rule, (walk-readings.1.1.0, (walk-readings.1.1.1.0, (walk-readings.1.1.1.1.0, (walk-readings.1.1.1.1.1, (ap (λ (vs : List Bool). get_or vs 2 false) votes-by-rule, (ap (λ (vs : List Bool). get_or vs 4 false) votes-by-rule, tt))))))))))
