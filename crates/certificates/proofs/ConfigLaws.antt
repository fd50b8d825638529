-- Laws of stake, quorum and the limits of a setup. Assumes nothing.
use Prim.Native.Nat.{ℕ, zero, suc, ◌+◌, ◌*◌, ◌%◌, ◌≤◌, ◌<◌}
use mathlib.Core.Path.{◌∙◌, ◌≡◌, ap, refl, sym}
use mathlib.Core.Logic.{◌≢◌}
use mathlib.Core.List.{List, [], ◌∷◌, ◌++◌}
use mathlib.Core.Bool.{Bool, true, false, cond}
use native.Mathlib.Omega.{arith}
use native.Mathlib.Numerals.{add-one}
use native.Mathlib.Nat.{mod-eq_of_lt}
use lib.ListN.{length, get_or, take, drop, take-append-drop}
use lib.Seq.{take-suc, take_all}
use lib.Bits.{bit_or, or_add_and, and_le_l, and_le_r}
use lib.Dec.{eqb, ltb}
use borrow.Author.Tests.{ne_eqb, eqb-false, lt-ltb, le-ltb, ltb-false}
use Rattle.std.specs.Prelude.{fold, Option, None, Some}
use Rattle.std.proofs.Common.{zero-add}
use Rattle.certificates.specs.declared.numbers.Stake.{Stake}
use Rattle.certificates.specs.Config.{members_max, total_max, sum, stake_of, quorum_from, quorum_of, limited, setup_of}

-- ---- sums

pub sum-from : (a : ℕ) (xs : List ℕ) → fold (λ s x. s + x) a xs ≡ a + sum xs
unfolding sum
sum-from a [] = omega arith
sum-from a (x ∷ xs) = omega (arith, sum-from (a + x) xs)

pub sum-append : (xs ys : List ℕ) → sum (xs ++ ys) ≡ sum xs + sum ys
unfolding sum
sum-append [] ys = omega arith
sum-append (x ∷ xs) ys = omega (arith, sum-append xs ys)

-- the library's sum of a list
pub sum_all : (xs : List ℕ) → fold (λ a x. a + x) 0 xs ≡ sum xs
sum_all xs = sum-from 0 xs ∙ zero-add (sum xs)

pub sum-split : (n : ℕ) (xs : List ℕ) → sum (take n xs) + sum (drop n xs) ≡ sum xs
sum-split n xs = sym (sum-append (take n xs) (drop n xs)) ∙ ap sum (take-append-drop n xs)

-- the largest stake that a member can hold
abbrev pub stake_max : ℕ
stake_max = 4294967295

-- a loop that sums: what the first elements come to, and one more
pub record Summed (xs : List ℕ) (i total : ℕ) : Type 0 where
  pub so_far : total ≡ sum (take i xs)

pub summed-none : (xs : List ℕ) → Summed xs 0 0
unfolding sum
summed-none xs = record { so_far = refl }

pub summed-more : {xs : List ℕ} {i total : ℕ} → Summed xs i total → i < length xs → (x : ℕ) → x ≡ get_or xs i 0 → Summed xs (i + 1) (total + x)
unfolding sum
summed-more {xs} {i} {total} k h x e =
    let one : sum (get_or xs i 0 ∷ []) ≡ get_or xs i 0 = omega arith in
    record { so_far = rw (add-one, take-suc xs i 0 h) (omega (arith, k.so_far, sum-append (take i xs) (get_or xs i 0 ∷ []))) }

pub summed-all : {xs : List ℕ} {i total : ℕ} → Summed xs i total → length xs ≤ i → total ≡ sum xs
summed-all {xs} {i} k h = rw (take_all i xs h) at k.so_far

-- no number has fewer bits than one that it is joined with
pub or_above_l : (a b : ℕ) → a ≤ bit_or a b
or_above_l a b = omega (arith, or_add_and a b, and_le_r a b)

pub or_above_r : (a b : ℕ) → b ≤ bit_or a b
or_above_r a b = omega (arith, or_add_and a b, and_le_l a b)

-- from here on a stake is large
abbrev pub large : ℕ
large = 16777216

-- a loop that sums what is below `large` of each, and joins the bits of all: where these show no large one, it is the sum
pub record SmallSum (xs : List ℕ) (i all total : ℕ) : Type 0 where
  pub so_far : all < large → Summed xs i total

pub small-none : (xs : List ℕ) → SmallSum xs 0 0 0
small-none xs = record { so_far = λ h. summed-none xs }

pub small-more : {xs : List ℕ} {i all total : ℕ} → SmallSum xs i all total → i < length xs → (x : ℕ) → x ≡ get_or xs i 0
    → SmallSum xs (i + 1) (bit_or all x) (total + x % large)
small-more {xs} {i} {all} {total} k h x e =
    record {
      so_far = λ small.
          let low : x < large = omega (arith, small, or_above_r all x) in
          rw (mod-eq_of_lt low) (summed-more (k.so_far (omega (arith, small, or_above_l all x))) h x e);
    }

pub small_all : {xs : List ℕ} {i all total : ℕ} → SmallSum xs i all total → length xs ≤ i → all < large → total ≡ sum xs
small_all k h small = summed-all (k.so_far small) h

-- ---- stake

module _ (m : List ℕ) (p : ℕ) where
  pub stake-at : get_or m p 0 ≡ stake_of m p
  unfolding stake_of
  stake-at = refl

pub stake-none : (m : List ℕ) (p : ℕ) → length m ≤ p → 0 ≡ stake_of m p
unfolding stake_of
stake-none [] p h = refl
stake-none (x ∷ m) zero h = absurd (omega arith)
stake-none (x ∷ m) (suc p) h = stake-none m p (omega arith)

-- a place with a stake is a member's
pub stake-member : (m : List ℕ) (p : ℕ) → stake_of m p ≢ 0 → p < length m
unfolding stake_of
stake-member [] p h = absurd (h refl)
stake-member (x ∷ m) zero h = omega arith
stake-member (x ∷ m) (suc p) h = omega (arith, stake-member m p h)

pub stake-le : (m : List ℕ) (p : ℕ) → stake_of m p ≤ sum m
unfolding stake_of sum
stake-le [] p = omega arith
stake-le (x ∷ m) zero = omega arith
stake-le (x ∷ m) (suc p) = omega (arith, stake-le m p)

-- ---- quorum

-- no sum of nothing is a quorum
pub quorum-pos : (t : ℕ) → 0 < quorum_from t
unfolding quorum_from
quorum-pos t = omega arith

-- all together are one, where there is any stake
pub quorum-le : (t : ℕ) → 0 < t → quorum_from t ≤ t
unfolding quorum_from
quorum-le t h = omega arith

-- a weight below the quorum is not above the total
pub below-quorum : (t weight : ℕ) → 0 < t → weight < quorum_from t → weight ≤ t
unfolding quorum_from
below-quorum t weight p h = omega arith

-- two quorums have more than a third of the total in common
pub quorum-overlap : (t a b : ℕ) → quorum_from t ≤ a → quorum_from t ≤ b → 4 * t < 3 * (a + b)
unfolding quorum_from
quorum-overlap t a b h k = omega arith

-- ---- the limits

module _ (m : List ℕ) where
  pub setup-many : (length m ≡ 0 → ⊥) → members_max < length m → None ≡ setup_of m
  unfolding setup_of
  setup-many n h = rw (ne_eqb (length m) 0 n, lt-ltb members_max (length m) h)

  pub setup-some : (length m ≡ 0 → ⊥) → length m ≤ members_max → {t : ℕ} {r : Option Stake} → t ≡ sum m → r ≡ limited t → r ≡ setup_of m
  unfolding setup_of
  setup-some n h e f = rw (ne_eqb (length m) 0 n, le-ltb members_max (length m) h, ← e) f

-- what a setup within the limits is known for
pub record Within (m : List ℕ) (t : ℕ) : Type 0 where
  pub total : t ≡ sum m
  pub small : t ≤ total_max
  pub some : 0 < length m
  pub few : length m ≤ members_max

from-limits : (none many high : Bool) (n : ℕ) (t : Stake) → cond none None (cond many None (cond high None (Some record { 0 = n }))) ≡ Some t
    → (none ≡ false) × (many ≡ false) × (high ≡ false) × (n ≡ t.0)
from-limits true many high n t e = absurd (cc)
from-limits false true high n t e = absurd (cc)
from-limits false false true n t e = absurd (cc)
from-limits false false false n t e = (refl, refl, refl, cc)

pub within : (m : List ℕ) (t : Stake) → setup_of m ≡ Some t → Within m t.0
unfolding setup_of limited
within m t e =
    let k = from-limits (eqb (length m) 0) (ltb members_max (length m)) (ltb total_max (sum m)) (sum m) t e in
    let n = eqb-false (length m) 0 k.0 in
    let s = ltb-false total_max (sum m) k.2 in
    record {
      total = sym k.3;
      small = omega (arith, k.3);
      some = omega arith;
      few = ltb-false members_max (length m) k.1;
    }

-- the quorum, from the total
pub quorum-total : (m : List ℕ) {t q : ℕ} → t ≡ sum m → q ≡ quorum_from t → q ≡ quorum_of m
unfolding quorum_of
quorum-total m e f = f ∙ ap quorum_from e
