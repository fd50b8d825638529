-- Words as sets of places: what one more bit does, what a sum over the bits is, and the lowest bit. Every law is an induction on the digits, lowest
-- first, by `/ 2` and `% 2`, and holds for words of any width. Assumes nothing.
use Prim.Native.Nat.{ℕ, zero, suc, ◌+◌, ◌-◌, ◌*◌, ◌/◌, ◌%◌, ◌^◌, ◌≤◌, ◌<◌, min, max}
use mathlib.Core.Path.{◌≡◌, refl, sym, ap, ◌∙◌}
use mathlib.Core.Logic.{◌≢◌, ◌⊎◌, inl, inr, ⊎_elim, by_cases}
use mathlib.Core.List.{List, [], ◌∷◌}
use native.Mathlib.Nat.{div-one, pow-suc, zero-mul, one-mul, suc-mul, add-mul, max-add-min, mul-le-mul_right}
use native.Mathlib.Decide.{dec_lt}
use native.Mathlib.Omega.{arith}
use lib.ListN.{length, get_or, take}
use lib.Bits.{bit_or, bit_and, or_step, and_step, or_zero_r}
use lib.Count.{ones, ones_step, count_trailing_zeros}
use lib.Dec.{lit<}
use lib.Pow.{shl_exact, shr-shr}
use Rattle.certificates.specs.Config.{sum}
use Rattle.certificates.specs.Signers.{bit_of, sum_at}

-- a digit is 0 or 1
two : (d : ℕ) → d < 2 → (d ≡ 0) ⊎ (d ≡ 1)
two zero h = inl refl
two (suc zero) h = inr refl
two (suc (suc d)) h = absurd (omega arith)

digit : (w : ℕ) → (w % 2 ≡ 0) ⊎ (w % 2 ≡ 1)
digit w = two (w % 2) (omega arith)

-- ---- a word with one bit set: its lowest digit, and the rest

or-one-odd : (w : ℕ) → bit_or w 1 % 2 ≡ 1
or-one-odd w = omega (arith, or_step w 1)

or-one-half : (w : ℕ) → bit_or w 1 / 2 ≡ w / 2
or-one-half w = omega (arith, or_step w 1, or_zero_r (w / 2))

or-odd : (w p : ℕ) → bit_or w (2 ^ suc p) % 2 ≡ w % 2
or-odd w p = omega (arith, or_step w (2 ^ suc p), pow-suc 2 p)

or-half : (w p : ℕ) → bit_or w (2 ^ suc p) / 2 ≡ bit_or (w / 2) (2 ^ p)
or-half w p =
    let half : 2 ^ suc p / 2 ≡ 2 ^ p = omega (arith, pow-suc 2 p) in
    let rest : bit_or w (2 ^ suc p) / 2 ≡ bit_or (w / 2) (2 ^ suc p / 2) = omega (arith, or_step w (2 ^ suc p), pow-suc 2 p) in
    rw half at rest

pub bit-none : (p : ℕ) → bit_of 0 p ≡ 0
unfolding bit_of
bit-none zero = refl
bit-none (suc p) = bit-none p

pub bit-set-same : (p w : ℕ) → bit_of (bit_or w (2 ^ p)) p ≡ 1
unfolding bit_of
bit-set-same zero w = or-one-odd w
bit-set-same (suc p) w = rw or-half (bit-set-same p (w / 2))

pub bit-set-other : (p q w : ℕ) → q ≢ p → bit_of (bit_or w (2 ^ p)) q ≡ bit_of w q
unfolding bit_of
bit-set-other zero zero w h = absurd (h refl)
bit-set-other zero (suc q) w h = rw or-one-half
bit-set-other (suc p) zero w h = or-odd w p
bit-set-other (suc p) (suc q) w h = rw or-half (bit-set-other p q (w / 2) (λ e. h (ap suc e)))

-- ---- what a new bit adds

pub ones-set : (p w : ℕ) → bit_of w p ≡ 0 → ones (bit_or w (2 ^ p)) ≡ suc (ones w)
unfolding bit_of
ones-set zero w h =
    let e : ones (bit_or w 1) ≡ bit_or w 1 % 2 + ones (bit_or w 1 / 2) = ones_step (bit_or w 1) in
    let f : ones (bit_or w 1) ≡ bit_or w 1 % 2 + ones (w / 2) = rw or-one-half at e in
    omega (arith, ones_step w, or-one-odd w)
ones-set (suc p) w h =
    let e : ones (bit_or w (2 ^ suc p)) ≡ bit_or w (2 ^ suc p) % 2 + ones (bit_or w (2 ^ suc p) / 2) = ones_step (bit_or w (2 ^ suc p)) in
    let f : ones (bit_or w (2 ^ suc p)) ≡ bit_or w (2 ^ suc p) % 2 + ones (bit_or (w / 2) (2 ^ p)) = rw or-half at e in
    omega (arith, ones_step w, or-odd w p, ones-set p (w / 2) h)

pub sum-set : (xs : List ℕ) (p w : ℕ) → bit_of w p ≡ 0 → sum_at xs (bit_or w (2 ^ p)) ≡ get_or xs p 0 + sum_at xs w
unfolding sum_at bit_of
sum-set [] p w h = refl
sum-set (x ∷ xs) zero w h = rw (or-one-odd, or-one-half, h, one-mul, zero-mul) (omega arith)
sum-set (x ∷ xs) (suc p) w h = rw (or-odd, or-half, sum-set xs p (w / 2) h) (omega arith)

-- ---- a sum over a word

pub sum-none : (xs : List ℕ) → sum_at xs 0 ≡ 0
unfolding sum_at
sum-none [] = refl
sum-none (x ∷ xs) = rw (zero-mul, sum-none xs)

pub sum-le : (xs : List ℕ) (w : ℕ) → sum_at xs w ≤ sum xs
unfolding sum_at sum
sum-le [] w = omega arith
sum-le (x ∷ xs) w =
    let d : w % 2 ≤ 1 = omega arith in
    omega (arith, mul-le-mul_right x d, one-mul x, sum-le xs (w / 2))

-- what two words have together and in common
pub sum-or-and : (xs : List ℕ) (a b : ℕ) → sum_at xs (bit_or a b) + sum_at xs (bit_and a b) ≡ sum_at xs a + sum_at xs b
unfolding sum_at
sum-or-and [] a b = refl
sum-or-and (x ∷ xs) a b =
    let or-digit : bit_or a b % 2 ≡ max (a % 2) (b % 2) = omega (arith, or_step a b) in
    let and-digit : bit_and a b % 2 ≡ min (a % 2) (b % 2) = omega (arith, and_step a b) in
    let or-rest : bit_or a b / 2 ≡ bit_or (a / 2) (b / 2) = omega (arith, or_step a b) in
    let and-rest : bit_and a b / 2 ≡ bit_and (a / 2) (b / 2) = omega (arith, and_step a b) in
    let both : max (a % 2) (b % 2) * x + min (a % 2) (b % 2) * x ≡ a % 2 * x + b % 2 * x =
    sym (add-mul (max (a % 2) (b % 2)) (min (a % 2) (b % 2)) x) ∙ ap (λ (d : ℕ). d * x) (max-add-min (a % 2) (b % 2)) ∙ add-mul (a % 2) (b % 2) x
    in
    rw (or-digit, and-digit, or-rest, and-rest) (omega (arith, sum-or-and xs (a / 2) (b / 2)))

-- where two words have a bit in common
pub bit-and : (p v w : ℕ) → bit_of (bit_and v w) p ≡ min (bit_of v p) (bit_of w p)
unfolding bit_of
bit-and zero v w = omega (arith, and_step v w)
bit-and (suc p) v w =
    let rest : bit_and v w / 2 ≡ bit_and (v / 2) (w / 2) = omega (arith, and_step v w) in
    rw rest (bit-and p (v / 2) (w / 2))

-- a word with the greater sum has a bit that adds to it and that the other lacks
pub some_more : (xs : List ℕ) (a b : ℕ) → sum_at xs b < sum_at xs a → (p : ℕ) × (bit_of a p ≡ 1) × (bit_of b p ≡ 0) × (get_or xs p 0 ≢ 0)
unfolding sum_at bit_of
some_more [] a b h = absurd (omega arith)
some_more (x ∷ xs) a b h =
    by_cases (dec_lt (b % 2 * x) (a % 2 * x))
    (λ l.
    let set : a % 2 ≡ 1 = ⊎_elim (λ e. let none : a % 2 * x ≡ 0 = rw e (zero-mul x) in absurd (omega arith)) (λ e. e) (digit a) in
    let all : a % 2 * x ≡ x = rw set (one-mul x) in
    let clear : b % 2 ≡ 0 = ⊎_elim (λ e. e) (λ e. let same : b % 2 * x ≡ x = rw e (one-mul x) in absurd (omega arith)) (digit b) in
    (0, set, clear, λ e. omega arith))
    (λ n. let t = some_more xs (a / 2) (b / 2) (omega arith) in (suc t.0, t.1, t.2, t.3))

-- words with the same bits have the same sum
pub sum_same : (xs : List ℕ) (a b : ℕ) → ((p : ℕ) → p < length xs → bit_of a p ≡ bit_of b p) → sum_at xs a ≡ sum_at xs b
unfolding sum_at bit_of
sum_same [] a b h = refl
sum_same (x ∷ xs) a b h =
    let head : a % 2 ≡ b % 2 = h 0 (omega arith) in
    rw (head, sum_same xs (a / 2) (b / 2) (λ p l. h (suc p) (omega arith)))

-- a bit by a shift
pub bit-digit : (w p : ℕ) → bit_of w p ≡ w / 2 ^ p % 2
unfolding bit_of
bit-digit w zero = ap (λ (n : ℕ). n % 2) (sym (div-one w))
bit-digit w (suc p) = bit-digit (w / 2) p ∙ ap (λ (n : ℕ). n % 2) (shr-shr w 1 p ∙ ap (λ (n : ℕ). w / 2 ^ n) (omega arith))

pub bit-small : (w p : ℕ) → bit_of w p ≤ 1
unfolding bit_of
bit-small w zero = omega arith
bit-small w (suc p) = bit-small (w / 2) p

-- ---- the lowest bit that is set: below the width, part of the word, and what it adds

-- a shift of 1 by less than the width
pub shift_one : (t : ℕ) → t < 64 → 1 * 2 ^ t % 2 ^ 64 ≡ 2 ^ t
shift_one t h = shl_exact 1 t 64 (lit< tt) (omega arith) ∙ one-mul (2 ^ t)

pub low-lt : (k w : ℕ) → 0 < w → w < 2 ^ k → count_trailing_zeros k w < k
unfolding count_trailing_zeros
low-lt zero w p h = absurd (omega arith)
low-lt (suc k) w p h =
    ⊎_elim (λ e. rw e (omega (arith, low-lt k (w / 2) (omega arith) (omega (arith, pow-suc 2 k))))) (λ e. rw e (omega arith)) (digit w)

pub low-le : (k w : ℕ) → 0 < w → w < 2 ^ k → 2 ^ count_trailing_zeros k w ≤ w
unfolding count_trailing_zeros
low-le zero w p h = absurd (omega arith)
low-le (suc k) w p h =
    ⊎_elim
    (λ e. rw e (omega (arith, pow-suc 2 (count_trailing_zeros k (w / 2)), low-le k (w / 2) (omega arith) (omega (arith, pow-suc 2 k)))))
    (λ e. rw e (omega arith))
    (digit w)

pub sum_low : (k : ℕ) (xs : List ℕ) (w : ℕ) → 0 < w → w < 2 ^ k
    → sum_at xs w ≡ get_or xs (count_trailing_zeros k w) 0 + sum_at xs (w - 2 ^ count_trailing_zeros k w)
unfolding sum_at count_trailing_zeros
sum_low zero xs w p h = absurd (omega arith)
sum_low (suc k) [] w p h = refl
sum_low (suc k) (x ∷ xs) w p h =
    ⊎_elim
    (λ e.
    let low = count_trailing_zeros k (w / 2) in
    let p' : 0 < w / 2 = omega arith in
    let h' : w / 2 < 2 ^ k = omega (arith, pow-suc 2 k) in
    let digit' : (w - 2 ^ suc low) % 2 ≡ 0 = omega (arith, pow-suc 2 low, low-le k (w / 2) p' h') in
    let half' : (w - 2 ^ suc low) / 2 ≡ w / 2 - 2 ^ low = omega (arith, pow-suc 2 low, low-le k (w / 2) p' h') in
    rw e (rw (digit', half', zero-mul) (omega (arith, sum_low k xs (w / 2) p' h'))))
    (λ e.
    let digit' : (w - 1) % 2 ≡ 0 = omega arith in
    let half' : (w - 1) / 2 ≡ w / 2 = omega arith in
    rw e (rw (digit', half', one-mul, zero-mul) (omega arith)))
    (digit w)

-- ---- a sum fits

pub take-small : (m n : ℕ) (xs : List ℕ) → 0 < m → ((i : ℕ) → get_or xs i 0 < m) → (i : ℕ) → get_or (take n xs) i 0 < m
take-small m zero xs p h i = p
take-small m (suc n) [] p h i = p
take-small m (suc n) (x ∷ xs) p h zero = h zero
take-small m (suc n) (x ∷ xs) p h (suc i) = take-small m n xs p (λ j. h (suc j)) i

sum_bound : (m : ℕ) (xs : List ℕ) → ((i : ℕ) → get_or xs i 0 < m) → sum xs ≤ length xs * m
unfolding sum
sum_bound m [] h = omega arith
sum_bound m (x ∷ xs) h = omega (arith, suc-mul (length xs) m, h 0, sum_bound m xs (λ i. h (suc i)))

pub sum-small : (b k : ℕ) (xs : List ℕ) (w : ℕ) → length xs ≤ k → ((i : ℕ) → get_or xs i 0 < b) → sum_at xs w ≤ k * b
sum-small b k xs w l h = omega (arith, sum-le xs w, sum_bound b xs h, mul-le-mul_right b l)
