-- 01, Bench readings: the P row on the vote rule with a TC, computed from the definitions. Assumes nothing.
use Prim.Native.Nat.{ℕ}
use mathlib.Core.Bool.{Bool, true, false}
use mathlib.Core.List.{List, [], ◌∷◌, map}
use mathlib.Core.Path.{◌≡◌}
use Rattle.certificates.specs.Numbers.{zero_hash}
use Rattle.std.specs.Prelude.{Some}
use Rattle.trace.specs.declared.events.Block.{Block}
use Rattle.trace.specs.Layout.{largest}
use Rattle.trace.proofs.Bounds.{largest-one, largest-cons}
use Rattle.moves.specs.declared.state.Core.{Core}
use Rattle.handlers.specs.Votes.{extends, may_vote}

-- a replica in round 5 that voted last in the round `last`
unfoldable pub core_after : ℕ → Core
core_after last =
    record {
      round = record { 0 = 5 };
      last_voted_round = record { 0 = last };
      last_committed_round = record { 0 = 0 };
      high_qc = record { hash = zero_hash; round = record { 0 = 0 }; signers = record { 0 = 0 } };
    }

-- "Block round 5, TC round 4 with high rounds 1,2,3", and a QC of round qc
unfoldable pub block_on : ℕ → Block
block_on qc =
    record {
      digest = zero_hash;
      author = record { 0 = 1 };
      round = record { 0 = 5 };
      verdict = 1;
      qc_hash = zero_hash;
      qc_round = record { 0 = qc };
      tc = Some (record { at = 89; round = record { 0 = 4 }; high = record { 0 = largest (1 ∷ 2 ∷ 3 ∷ []) } });
    }

pub record Reading : Type 0 where
  pub last : ℕ
  pub qc : ℕ
  pub voted : Bool

abbrev pub reads : ℕ → ℕ → Bool → Reading
reads last qc voted = record { last = last; qc = qc; voted = voted }

abbrev pub readings : List Reading
readings =
    -- "QC round 3 voted, 2 not."
    reads 4 3 true
    ∷ reads 4 2 false
    -- the QC rule needs no TC
    ∷ reads 4 4 true
    -- "round > last voted"
    ∷ reads 0 3 true
    ∷ reads 5 3 false
    ∷ []

pub votes-by-rule : map (λ (r : Reading). may_vote (core_after r.last) (block_on r.qc)) readings ≡ map (λ (r : Reading). r.voted) readings
unfolding core_after block_on extends may_vote
votes-by-rule = rw (largest-cons 1 (2 ∷ 3 ∷ []), largest-cons 2 (3 ∷ []), largest-one 3)
