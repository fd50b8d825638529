-- The laws of `le` and of reads at a place: one law joins two reads into one of both widths, and one says what the library makes
-- of the bytes that are taken. Assumes nothing.
use mathlib.Core.Path.{◌≡◌, refl, sym, ap, ◌∙◌}
use mathlib.Core.Bool.{Bool, true, false}
use mathlib.Core.List.{List, [], ◌∷◌, ◌++◌}
use Prim.Native.Nat.{ℕ, zero, suc, ◌+◌, ◌-◌, ◌*◌, ◌^◌, ◌≤◌, ◌<◌}
use native.Mathlib.Nat.{one-mul, mul-zero, mul-suc, mul_assoc, mul_comm, pow-succ'}
use native.Mathlib.Omega.{arith}
use Rattle.std.specs.Prelude.{cond}
use Rattle.std.proofs.lemmas.List.{drop-take, take-take}
use Rattle.std.specs.Int.{sum_through, byte_worth}
use lib.ListN.{length, take, drop, get_or, replicate, length-drop}
use lib.Seq.{take-add, take-suc, take_all, drop-drop, drop-cons, length-take-le}
use lib.Dec.{leb}
use borrow.Author.Tests.{le-leb, lt-leb, leb-true, leb-false}
use Rattle.certificates.specs.declared.numbers.Hash.{Hash}
use Rattle.certificates.specs.Numbers.{zero_hash}
use Rattle.certificates.specs.Num.{le, bytes_at, num_at, hash_in, hash_at, nums_at}

-- what a test that held, or failed, says
pub leb_yes : {a b : ℕ} → a ≤ b → true ≡ leb a b
leb_yes h = sym (le-leb _ _ h)

pub le-append : (xs ys : List ℕ) → le (xs ++ ys) ≡ le xs + 256 ^ length xs * le ys
unfolding le
le-append [] ys = sym (one-mul (le ys)) ∙ omega arith
le-append (x ∷ xs) ys =
    let ih = le-append xs ys in
    let e : 256 ^ suc (length xs) * le ys ≡ 256 * (256 ^ length xs * le ys) = rw pow-succ' (mul_assoc 256 _ _) in
    omega arith

le-zeros : (n : ℕ) → le (replicate n 0) ≡ 0
unfolding le
le-zeros zero = refl
le-zeros (suc n) = rw (le-zeros n)

-- the first bytes, as the library sums them
le-worth : (xs : List ℕ) (k : ℕ) → k < length xs → sum_through (λ i. byte_worth i (get_or xs i 0)) k ≡ le (take (suc k) xs)
unfolding le
le-worth [] zero h = absurd (omega arith)
le-worth (x ∷ xs) zero h = omega arith
le-worth xs (suc k) h =
    let n : length (take (suc k) xs) ≡ suc k = length-take-le (suc k) xs (omega arith) in
    let x = get_or xs (suc k) 0 in
    let one : le (x ∷ []) ≡ x = omega arith in
    rw (le-worth xs k (omega arith), take-suc xs (suc k) 0 h, le-append, n, one) (ap (λ (y : ℕ). le (take (suc k) xs) + y) (mul_comm x (256 ^ suc k)))

module _ (s : List ℕ) (at : ℕ) where
  -- one byte
  pub single : at + 1 ≤ length s → get_or s at 0 ≡ le (take 1 (drop at s))
  unfolding le
  single h = let i : at < length s = omega arith in rw (drop-cons s at 0) (omega arith)

  -- a read of a + b bytes from reads of a and of b
  pub joined : (a b : ℕ) {x y : ℕ} → x ≡ le (take a (drop at s)) → y ≡ le (take b (drop (at + a) s)) → at + (a + b) ≤ length s
      → x + 256 ^ a * y ≡ le (take (a + b) (drop at s))
  joined a b p q h =
      let n : length (take a (drop at s)) ≡ a = length-take-le a (drop at s) (rw length-drop (omega arith)) in
      rw (take-add a b (drop at s), le-append, n, drop-drop, p, q)

  -- the two cases of a read whose room was tested
  pub num-in : (w : ℕ) {x : ℕ} {t : Bool} → t ≡ leb (at + w) (length s) → t ≡ true → x ≡ le (take w (drop at s)) → x ≡ num_at w s at
  unfolding num_at
  num-in w e t p = rw (← e, t) p

  pub num-out : (w : ℕ) {t : Bool} → t ≡ leb (at + w) (length s) → t ≡ false → 0 ≡ num_at w s at
  unfolding num_at
  num-out w e t = rw (← e, t)

  -- a hash is four reads of 8 bytes
  pub hash-read : {a b c d : ℕ} → a ≡ le (take 8 (drop at s)) → b ≡ le (take 8 (drop (at + 8) s)) → c ≡ le (take 8 (drop (at + 16) s)) → d ≡ le (take 8 (drop (at + 24) s))
      → record { a = a; b = b; c = c; d = d } ≡ hash_in s at
  hash-read e f g h = rw (e, f, g, h)

  pub hash-in : {x : Hash} {t : Bool} → t ≡ leb (at + 32) (length s) → t ≡ true → x ≡ hash_in s at → x ≡ hash_at s at
  unfolding hash_at
  hash-in e t p = rw (← e, t) p

  pub hash-out : {t : Bool} → t ≡ leb (at + 32) (length s) → t ≡ false → zero_hash ≡ hash_at s at
  unfolding hash_at
  hash-out e t = rw (← e, t)

  -- a read whose bytes all lie in s
  pub num-within : (w : ℕ) {x : ℕ} → x ≡ le (take w (drop at s)) → at + w ≤ length s → x ≡ num_at w s at
  unfolding num_at
  num-within w e h = rw (le-leb _ _ h) e

  -- ---- the bytes that a read takes, and zeros where they do not all lie in s

  le-bytes : (n : ℕ) → le (bytes_at n s at) ≡ num_at n s at
  unfolding bytes_at num_at
  le-bytes n = cases (leb (at + n) (length s))
    where
      cases : (b : Bool) → le (cond b (take n (drop at s)) (replicate n 0)) ≡ cond b (le (take n (drop at s))) 0
      cases true = refl
      cases false = le-zeros n

  -- a number that the library makes of them
  pub from-bytes : (k : ℕ) {r : ℕ} (xs : List ℕ) → r ≡ sum_through (λ i. byte_worth i (get_or xs i 0)) k → length xs ≡ suc k → xs ≡ bytes_at (suc k) s at → r ≡ num_at (suc k) s at
  from-bytes k xs e n p =
      let all : take (suc k) xs ≡ xs = take_all (suc k) xs (omega arith) in
      e ∙ le-worth xs k (omega arith) ∙ ap le (all ∙ p) ∙ le-bytes (suc k)

-- two bytes
pub pair-read : (s : List ℕ) (at : ℕ) {r : ℕ} → r ≡ get_or s at 0 + get_or s (at + 1) 0 * 256 → at + 2 ≤ length s → r ≡ num_at 2 s at
pair-read s at {r} e h =
    let one : r ≡ get_or s at 0 + 256 * get_or s (at + 1) 0 = omega arith in
    num-within s at 2 (one ∙ joined s at 1 1 (single s at (omega arith)) (single s (at + 1) (omega arith)) h) h

-- 8 of 32 bytes, and 8 of 32 zeros
word-in : (s : List ℕ) (at k : ℕ) → k + 8 ≤ 32 → at + 32 ≤ length s → num_at 8 (take 32 (drop at s)) k ≡ le (take 8 (drop (at + k) s))
word-in s at k e h =
    let long : length (take 32 (drop at s)) ≡ 32 = length-take-le 32 (drop at s) (rw length-drop (omega arith)) in
    let all : k + (32 - k) ≡ 32 = omega arith in
    let rest : drop k (take 32 (drop at s)) ≡ take (32 - k) (drop (at + k) s) = rw all at (drop-take k (32 - k) (drop at s) ∙ ap (λ (l : List ℕ). take (32 - k) l) (drop-drop k at s)) in
    sym (num-within (take 32 (drop at s)) k 8 (ap le (sym (ap (λ (l : List ℕ). take 8 l) rest ∙ take-take 8 (32 - k) (drop (at + k) s) (omega arith)))) (omega (arith, long)))

words-out : (num_at 8 (replicate 32 0) 0 ≡ 0) × (num_at 8 (replicate 32 0) 8 ≡ 0) × (num_at 8 (replicate 32 0) 16 ≡ 0) × (num_at 8 (replicate 32 0) 24 ≡ 0)
unfolding num_at le
words-out = (refl, refl, refl, refl)

-- a hash is four numbers of its 32 bytes
module _ (s : List ℕ) (at : ℕ) {bytes : List ℕ} {a b c d : ℕ} (e : bytes ≡ bytes_at 32 s at)
    (f : a ≡ num_at 8 bytes 0) (g : b ≡ num_at 8 bytes 8) (h : c ≡ num_at 8 bytes 16) (i : d ≡ num_at 8 bytes 24) where
  whole : at + 32 ≤ length s → record { a = a; b = b; c = c; d = d } ≡ hash_at s at
  unfolding hash_at bytes_at
  whole l =
      let test = le-leb (at + 32) (length s) l in
      let all : bytes ≡ take 32 (drop at s) = rw test at e in
      let w : (k : ℕ) → k + 8 ≤ 32 → num_at 8 bytes k ≡ le (take 8 (drop (at + k) s)) = λ k n. rw all (word-in s at k n l) in
      let first : at + 0 ≡ at = omega arith in
      rw test (hash-read s at (rw first at (f ∙ w 0 (omega arith))) (g ∙ w 8 (omega arith)) (h ∙ w 16 (omega arith)) (i ∙ w 24 (omega arith)))

  cut : length s < at + 32 → record { a = a; b = b; c = c; d = d } ≡ hash_at s at
  unfolding hash_at bytes_at
  cut l =
      let test = lt-leb (at + 32) (length s) l in
      let all : bytes ≡ replicate 32 0 = rw test at e in
      let w = words-out in
      rw (test, rw all at f ∙ w.0, rw all at g ∙ w.1, rw all at h ∙ w.2, rw all at i ∙ w.3)

  pub hash-bytes : record { a = a; b = b; c = c; d = d } ≡ hash_at s at
  hash-bytes = cases (leb (at + 32) (length s)) refl
    where
      cases : (t : Bool) → leb (at + 32) (length s) ≡ t → record { a = a; b = b; c = c; d = d } ≡ hash_at s at
      cases true t = whole (leb-true (at + 32) (length s) t)
      cases false t = cut (leb-false (at + 32) (length s) t)

-- ---- the numbers that entries begin with

pub length-nums : (w k n : ℕ) (s : List ℕ) (at : ℕ) → length (nums_at w k n s at) ≡ n
unfolding nums_at
length-nums w k zero s at = refl
length-nums w k (suc n) s at = ap suc (length-nums w k n s (at + k))

pub nums_at_lem : (w k n : ℕ) (s : List ℕ) (at i : ℕ) → i < n → get_or (nums_at w k n s at) i 0 ≡ num_at w s (at + k * i)
unfolding nums_at
nums_at_lem w k zero s at i h = absurd (omega arith)
nums_at_lem w k (suc n) s at zero h = ap (λ (j : ℕ). num_at w s j) (omega (arith, mul-zero k))
nums_at_lem w k (suc n) s at (suc i) h = nums_at_lem w k n s (at + k) i (omega arith) ∙ ap (λ (j : ℕ). num_at w s j) (omega (arith, mul-suc k i))
