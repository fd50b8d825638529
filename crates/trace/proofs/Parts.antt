-- Parts of a list, and numbers and hashes read in a part or before more bytes. Assumes nothing.
use mathlib.Core.Path.{◌≡◌, refl, sym, ◌∙◌}
use mathlib.Core.Bool.{Bool, true, false}
use mathlib.Core.List.{List, [], ◌∷◌, ◌++◌}
use Prim.Native.Nat.{ℕ, zero, suc, ◌+◌, ◌-◌, ◌≤◌, ◌<◌}
use native.Mathlib.Nat.{le_of_eq}
use native.Mathlib.Omega.{arith}
use lib.ListN.{length, length-append, take, drop, length-drop, length-take}
use lib.Seq.{take-append-le, drop-append-le, drop-drop, take_all, take-take, take-nil}
use lib.Dec.{leb}
use borrow.Author.Tests.{le-leb, lt-leb, leb-true, leb-false}
use Rattle.certificates.specs.Num.{le, num_at, hash_in, hash_at}
use Rattle.certificates.specs.Numbers.{zero_hash}
use Rattle.certificates.proofs.Bytes.{num-in, num-out, hash-in, hash-out}

-- an order between two numbers, by cases
by-test : {C : Type 0} (t : Bool) (a b : ℕ) → t ≡ leb a b → (a ≤ b → C) → (b < a → C) → C
by-test true a b e f g = f (leb-true a b (sym e))
by-test false a b e f g = g (leb-false a b (sym e))

pub by_order : {C : Type 0} (a b : ℕ) → (a ≤ b → C) → (b < a → C) → C
by_order a b f g = by-test (leb a b) a b refl f g

-- ---- parts

pub all_after : (s : List ℕ) (n : ℕ) → take (length s - n) (drop n s) ≡ drop n s
all_after s n = take_all _ _ (le_of_eq (length-drop n s))

pub drop-take : (i n : ℕ) (s : List ℕ) → drop i (take n s) ≡ take (n - i) (drop i s)
drop-take zero n s = let z : n - 0 ≡ n = omega arith in rw z
drop-take (suc i) zero s = let z : 0 - suc i ≡ 0 = omega arith in rw z
drop-take (suc i) (suc n) [] = sym (take-nil (suc n - suc i))
drop-take (suc i) (suc n) (x ∷ s) = let z : suc n - suc i ≡ n - i = omega arith in rw z (drop-take i n s)

-- ---- reads: inside the list, past its end, in a part, and before more bytes

module _ (w : ℕ) (s : List ℕ) (at : ℕ) where
  pub num-inside : at + w ≤ length s → num_at w s at ≡ le (take w (drop at s))
  num-inside h = sym (num-in s at w refl (le-leb _ _ h) refl)

  pub num-past : length s < at + w → num_at w s at ≡ 0
  num-past h = sym (num-out s at w refl (lt-leb _ _ h))

pub num-drop : (w : ℕ) (s : List ℕ) (a i : ℕ) → 0 < w → num_at w (drop a s) i ≡ num_at w s (a + i)
num-drop w s a i p =
    by_order ((a + i) + w) (length s)
    (λ h. let l : i + w ≤ length (drop a s) = rw length-drop (omega arith) in rw (num-inside w (drop a s) i l, num-inside w s (a + i) h, drop-drop))
    (λ h. let l : length (drop a s) < i + w = rw length-drop (omega arith) in num-past w (drop a s) i l ∙ sym (num-past w s (a + i) h))

pub count_after : (s : List ℕ) (at i : ℕ) → num_at 2 (drop at s) i ≡ num_at 2 s (at + i)
count_after s at i = num-drop 2 s at i (omega arith)

pub num-take : (w : ℕ) (s : List ℕ) (n i : ℕ) → i + w ≤ n → num_at w (take n s) i ≡ num_at w s i
num-take w s n i p =
    by_order (i + w) (length s)
    (λ h.
    let l : i + w ≤ length (take n s) = rw length-take (omega arith) in
    let m : w ≤ n - i = omega arith in
    rw (num-inside w (take n s) i l, num-inside w s i h, drop-take, take-take w (n - i) (drop i s)))
    (λ h. let l : length (take n s) < i + w = rw length-take (omega arith) in num-past w (take n s) i l ∙ sym (num-past w s i h))

pub num-append : (w : ℕ) (s t : List ℕ) (at : ℕ) → at + w ≤ length s → num_at w (s ++ t) at ≡ num_at w s at
num-append w s t at h =
    let l : at + w ≤ length (s ++ t) = rw length-append (omega arith) in
    let a : at ≤ length s = omega arith in
    let d : w ≤ length (drop at s) = rw length-drop (omega arith) in
    rw (num-inside w (s ++ t) at l, num-inside w s at h, drop-append-le at s t a, take-append-le w (drop at s) t d)

-- a number or a hash of a part that starts at a and is n long
module _ (s : List ℕ) (a n i : ℕ) where
  pub num-part : (w : ℕ) → 0 < w → i + w ≤ n → num_at w (take n (drop a s)) i ≡ num_at w s (a + i)
  num-part w p h = num-take w (drop a s) n i h ∙ num-drop w s a i p

  read-part : (w : ℕ) → i + w ≤ n → take w (drop i (take n (drop a s))) ≡ take w (drop (a + i) s)
  read-part w h = let m : w ≤ n - i = omega arith in rw (drop-take, take-take w (n - i), drop-drop)

module _ (s : List ℕ) (at : ℕ) where
  hash-inside : at + 32 ≤ length s → hash_at s at ≡ hash_in s at
  hash-inside h = sym (hash-in s at refl (le-leb _ _ h) refl)

  hash-past : length s < at + 32 → hash_at s at ≡ zero_hash
  hash-past h = sym (hash-out s at refl (lt-leb _ _ h))

pub hash-part : (s : List ℕ) (a n : ℕ) → 32 ≤ n → hash_at (take n (drop a s)) 0 ≡ hash_at s a
hash-part s a n h =
    by_order (a + 32) (length s)
    (λ k.
    let l : 32 ≤ length (take n (drop a s)) = rw (length-take, length-drop) (omega arith) in
    let z : a + 0 ≡ a = omega arith in
    let e : le (take 8 (drop 0 (take n (drop a s)))) ≡ le (take 8 (drop a s)) = rw (read-part s a n 0 8 (omega arith), z) in
    rw (
      hash-inside (take n (drop a s)) 0 l,
      hash-inside s a k,
      e,
      read-part s a n 8 8 (omega arith),
      read-part s a n 16 8 (omega arith),
      read-part s a n 24 8 (omega arith),
    ))
    (λ k.
    let l : length (take n (drop a s)) < 32 = rw (length-take, length-drop) (omega arith) in
    hash-past (take n (drop a s)) 0 l ∙ sym (hash-past s a k))
