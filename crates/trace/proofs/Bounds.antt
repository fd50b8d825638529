-- The largest of some numbers, and whether one is above a bound. Assumes nothing.
use mathlib.Core.Path.{◌≡◌, refl, sym, ◌∙◌}
use mathlib.Core.Bool.{Bool, true, false, cond}
use mathlib.Core.List.{List, [], ◌∷◌}
use Prim.Native.Nat.{ℕ, max, ◌≤◌, ◌<◌}
use native.Mathlib.Omega.{arith}
use lib.Dec.{ltb}
use borrow.Author.Tests.{lt-ltb, le-ltb, ltb-false, ltb-true}
use Rattle.trace.specs.Layout.{largest}
use Rattle.trace.specs.Form.{any_above}

-- one of two numbers is above the bound if the larger is
above-second : (t : Bool) (m x y : ℕ) → x ≤ m → t ≡ ltb m y → t ≡ ltb m (max x y)
above-second true m x y h e = let k : m < y = ltb-true m y (sym e) in sym (lt-ltb m (max x y) (omega arith))
above-second false m x y h e = let k : y ≤ m = ltb-false m y (sym e) in sym (le-ltb m (max x y) (omega arith))

above-max : (t : Bool) (m x y : ℕ) → t ≡ ltb m x → cond t true (ltb m y) ≡ ltb m (max x y)
above-max true m x y e = let h : m < x = ltb-true m x (sym e) in sym (lt-ltb m (max x y) (omega arith))
above-max false m x y e = above-second (ltb m y) m x y (ltb-false m x (sym e)) refl

-- a number of the list is above the bound if the largest is
pub any_largest : (m : ℕ) (xs : List ℕ) → any_above m xs ≡ ltb m (largest xs)
unfolding any_above largest
any_largest m [] = sym (le-ltb m 0 (omega arith))
any_largest m (x ∷ xs) = rw (any_largest m xs) (above-max (ltb m x) m x (largest xs) refl)

module _ (m : ℕ) where
  -- no number is above: each is within
  pub none_above : (x : ℕ) (xs : List ℕ) → any_above m (x ∷ xs) ≡ false → (x ≤ m) × (any_above m xs ≡ false)
  unfolding any_above
  none_above x xs e = parts (ltb m x) refl e
    where
      parts : (t : Bool) → t ≡ ltb m x → cond t true (any_above m xs) ≡ false → (x ≤ m) × (any_above m xs ≡ false)
      parts true p q = let z : ◌≡◌ {A = ℕ} 0 1 = cc in absurd (omega arith)
      parts false p q = (ltb-false m x (sym p), q)

  pub largest-within : (xs : List ℕ) → any_above m xs ≡ false → largest xs ≤ m
  largest-within xs e = ltb-false m (largest xs) (sym (any_largest m xs) ∙ e)

pub largest-one : (x : ℕ) → largest (x ∷ []) ≡ x
unfolding largest
largest-one x = omega arith

pub largest-cons : (x : ℕ) (xs : List ℕ) → largest (x ∷ xs) ≡ max x (largest xs)
unfolding largest
largest-cons x xs = refl
