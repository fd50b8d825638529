-- What a caller needs of the parts and the entries of certificates: the fields of a part are those of the record at its place.
--     qc-part-count, qc-part-round, qc-part-hash, qc-part-verdict     of `qc_part s at`
--     tc-part-count, tc-part-round, tc-part-verdict                   of `tc_part s at`
--     qc-part-length, tc-part-length                                  of a part that lies in the record whole
--     length-highs, highs-le                                          of `highs_of`: its length, and that none is above the largest
-- Assumes nothing.
use mathlib.Core.Path.{◌≡◌, refl, ◌∙◌}
use mathlib.Core.List.{List, [], ◌∷◌}
use Prim.Native.Nat.{ℕ, zero, suc, max, ◌+◌, ◌≤◌, ◌<◌}
use native.Mathlib.Omega.{arith}
use lib.ListN.{length, get_or, drop, set, replicate, length-drop, length-set, length-replicate}
use lib.Seq.{length-take-le, get_or-take, get_or-drop}
use Rattle.certificates.specs.Num.{num_at, hash_at}
use Rattle.trace.specs.Layout.{signers_max, qc_round, qc_verdict, qc_count, qc_size, qc_part, tc_round, tc_verdict, tc_count, tc_size, tc_part, place_in, high_in, highs_in, largest, largest_high, highs_up_to, highs_of}
use Rattle.trace.proofs.Parts.{num-part, hash-part}

module _ (s : List ℕ) (at : ℕ) where
  pub qc-part-count : num_at 2 (qc_part s at) 41 ≡ qc_count s at
  unfolding qc_part
  qc-part-count = num-part s at (qc_size s at) 41 2 (omega arith) (omega arith)

  pub qc-part-round : num_at 8 (qc_part s at) 32 ≡ qc_round s at
  unfolding qc_part
  qc-part-round = num-part s at (qc_size s at) 32 8 (omega arith) (omega arith)

  pub qc-part-hash : hash_at (qc_part s at) 0 ≡ hash_at s at
  unfolding qc_part
  qc-part-hash = hash-part s at (qc_size s at) (omega arith)

  pub qc-part-verdict : get_or (qc_part s at) 40 0 ≡ qc_verdict s at
  unfolding qc_part
  qc-part-verdict = let h : 40 < qc_size s at = omega arith in get_or-take (qc_size s at) (drop at s) 40 0 h ∙ get_or-drop at s 40 0

  pub qc-part-length : at + qc_size s at ≤ length s → length (qc_part s at) ≡ qc_size s at
  unfolding qc_part
  qc-part-length h = length-take-le (qc_size s at) (drop at s) (rw length-drop (omega arith))

  pub tc-part-count : num_at 2 (tc_part s at) 9 ≡ tc_count s at
  unfolding tc_part
  tc-part-count = num-part s at (tc_size s at) 9 2 (omega arith) (omega arith)

  pub tc-part-round : num_at 8 (tc_part s at) 0 ≡ tc_round s at
  unfolding tc_part
  tc-part-round = let e : at + 0 ≡ at = omega arith in rw e at (num-part s at (tc_size s at) 0 8 (omega arith) (omega arith))

  pub tc-part-verdict : get_or (tc_part s at) 8 0 ≡ tc_verdict s at
  unfolding tc_part
  tc-part-verdict = let h : 8 < tc_size s at = omega arith in get_or-take (tc_size s at) (drop at s) 8 0 h ∙ get_or-drop at s 8 0

  pub tc-part-length : at + tc_size s at ≤ length s → length (tc_part s at) ≡ tc_size s at
  unfolding tc_part
  tc-part-length h = length-take-le (tc_size s at) (drop at s) (rw length-drop (omega arith))

-- ---- the high rounds by place

get_or-zeros : (n p : ℕ) → ◌≡◌ {A = ℕ} (get_or (replicate n 0) p 0) 0
get_or-zeros zero p = refl
get_or-zeros (suc n) zero = refl
get_or-zeros (suc n) (suc p) = get_or-zeros n p

-- a store of v: no element passes both v and the bound there was
set-le : (xs : List ℕ) (i p v m : ℕ) → get_or xs p 0 ≤ m → get_or (set xs i v) p 0 ≤ max v m
set-le [] i p v m h = omega arith
set-le (x ∷ xs) zero zero v m h = omega arith
set-le (x ∷ xs) zero (suc p) v m h = omega arith
set-le (x ∷ xs) (suc i) zero v m h = omega arith
set-le (x ∷ xs) (suc i) (suc p) v m h = set-le xs i p v m h

module _ (t : List ℕ) where
  length-up-to : (n : ℕ) → length (highs_up_to t n) ≡ signers_max
  unfolding highs_up_to
  length-up-to zero = length-replicate {A = ℕ} signers_max 0
  length-up-to (suc n) = length-set (highs_up_to t n) (place_in t n) (high_in t n) ∙ length-up-to n

  pub length-highs : length (highs_of t) ≡ signers_max
  unfolding highs_of
  length-highs = length-up-to (tc_count t 0)

  -- no place holds more than the largest of the entries' high rounds
  up-to-le : (n p : ℕ) → get_or (highs_up_to t n) p 0 ≤ largest (highs_in t n)
  unfolding highs_up_to highs_in largest
  up-to-le zero p = rw (get_or-zeros signers_max p) (omega arith)
  up-to-le (suc n) p = set-le (highs_up_to t n) (place_in t n) p (high_in t n) (largest (highs_in t n)) (up-to-le n p)

  pub highs-le : (p : ℕ) → get_or (highs_of t) p 0 ≤ largest_high t
  unfolding highs_of largest_high
  highs-le p = up-to-le (tc_count t 0) p
