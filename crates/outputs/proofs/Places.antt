-- The places of a signer word. Every law is an induction on the digits of the word, lowest first, by `/ 2` and `% 2`. Assumes nothing.
--     length-places, places-most, ones-most    how many they are
--     places-none                              those of 0
--     low-lt, low-le, places-low               the lowest
--     Lowest, lowest                           all that a turn of a loop over the set places needs of the lowest
use mathlib.Core.Path.{◌≡◌, refl, sym, ap, ◌∙◌}
use mathlib.Core.Logic.{◌⊎◌, inl, inr, ⊎_elim}
use mathlib.Core.List.{[], ◌∷◌}
use Prim.Native.Nat.{ℕ, zero, suc, ◌+◌, ◌-◌, ◌*◌, ◌/◌, ◌%◌, ◌^◌, ◌≤◌, ◌<◌}
use native.Mathlib.Nat.{zero-add, add-zero, add-suc, suc-add, pow-suc, one-mul}
use native.Mathlib.Omega.{arith}
use lib.Count.{ones, ones_step, ones-le, count_trailing_zeros}
use lib.Dec.{lit<}
use lib.ListN.{length}
use lib.Pow.{shl_exact, pow_pos}
use Rattle.outputs.specs.Records.{members_max, places_from, places_of}

two : (d : ℕ) → d < 2 → (d ≡ 0) ⊎ (d ≡ 1)
two zero h = inl refl
two (suc zero) h = inr refl
two (suc (suc d)) h = absurd (omega arith)

digit : (w : ℕ) → (w % 2 ≡ 0) ⊎ (w % 2 ≡ 1)
digit w = two (w % 2) (omega arith)

half : (k w : ℕ) → w < 2 ^ suc k → w / 2 < 2 ^ k
half k w h = omega (arith, pow-suc 2 k)

-- ---- how many

pub length-places : (k p w : ℕ) → w < 2 ^ k → length (places_from k p w) ≡ ones w
unfolding places_from
length-places zero p w h = let e : ones w ≤ 0 = ones-le 0 w h in omega arith
length-places (suc k) p w h =
    ⊎_elim
    (λ e. rw e (omega (arith, ones_step w, length-places k (suc p) (w / 2) (half k w h))))
    (λ e. rw e (omega (arith, ones_step w, length-places k (suc p) (w / 2) (half k w h))))
    (digit w)

-- a word of 64 bits has at most 64 ones
pub ones-most : (w : ℕ) → w < 2 ^ 64 → ones w ≤ members_max
ones-most w h = ones-le 64 w h

pub places-none : (k p : ℕ) → places_from k p 0 ≡ []
unfolding places_from
places-none zero p = refl
places-none (suc k) p = places-none k (suc p)

pub places-most : (k p w : ℕ) → length (places_from k p w) ≤ k
unfolding places_from
places-most zero p w = omega arith
places-most (suc k) p w =
    ⊎_elim (λ e. rw e (omega (arith, places-most k (suc p) (w / 2)))) (λ e. rw e (omega (arith, places-most k (suc p) (w / 2)))) (digit w)

-- ---- the lowest

pub low-lt : (k w : ℕ) → 0 < w → w < 2 ^ k → count_trailing_zeros k w < k
unfolding count_trailing_zeros
low-lt zero w p h = absurd (omega arith)
low-lt (suc k) w p h = ⊎_elim (λ e. rw e (omega (arith, low-lt k (w / 2) (omega arith) (half k w h)))) (λ e. rw e (omega arith)) (digit w)

pub low-le : (k w : ℕ) → 0 < w → w < 2 ^ k → 2 ^ count_trailing_zeros k w ≤ w
unfolding count_trailing_zeros
low-le zero w p h = absurd (omega arith)
low-le (suc k) w p h =
    ⊎_elim
    (λ e. rw e (omega (arith, pow-suc 2 (count_trailing_zeros k (w / 2)), low-le k (w / 2) (omega arith) (half k w h))))
    (λ e. rw e (omega arith))
    (digit w)

pub places-low : (k p w : ℕ) → 0 < w → w < 2 ^ k → places_from k p w ≡ (p + count_trailing_zeros k w) ∷ places_from k p (w - 2 ^ count_trailing_zeros k w)
unfolding places_from count_trailing_zeros
places-low zero p w h l = absurd (omega arith)
places-low (suc k) p w h l =
    ⊎_elim
    (λ e.
    let low = count_trailing_zeros k (w / 2) in
    let h' : 0 < w / 2 = omega arith in
    let l' : w / 2 < 2 ^ k = half k w l in
    let digit' : (w - 2 ^ suc low) % 2 ≡ 0 = omega (arith, pow-suc 2 low, low-le k (w / 2) h' l') in
    let half' : (w - 2 ^ suc low) / 2 ≡ w / 2 - 2 ^ low = omega (arith, pow-suc 2 low, low-le k (w / 2) h' l') in
    rw e (rw (digit', half', add-suc, ← suc-add) (places-low k (suc p) (w / 2) h' l')))
    (λ e.
    let digit' : (w - 1) % 2 ≡ 0 = omega arith in
    let half' : (w - 1) / 2 ≡ w / 2 = omega arith in
    rw e (rw (digit', half', add-zero) refl))
    (digit w)

-- what a turn of a loop over the set places needs of the lowest one, t
pub record Lowest (w t : ℕ) : Type 0 where
  pub below : t < members_max
  pub shifted : 1 * 2 ^ t % 2 ^ 64 ≡ 2 ^ t
  pub positive : 0 < 2 ^ t
  pub inside : 2 ^ t ≤ w
  pub places : places_of w ≡ t ∷ places_of (w - 2 ^ t)
  pub count : ones w ≡ suc (ones (w - 2 ^ t))

pub lowest : (w : ℕ) → 0 < w → w < 2 ^ 64 → Lowest w (count_trailing_zeros 64 w)
unfolding places_of
lowest w h l =
    let t = count_trailing_zeros 64 w in
    let below : t < 64 = low-lt 64 w h l in
    let places : places_from 64 0 w ≡ t ∷ places_from 64 0 (w - 2 ^ t) = places-low 64 0 w h l ∙ rw zero-add in
    let less : w - 2 ^ t < 2 ^ 64 = omega arith in
    record {
      below = below;
      shifted = shl_exact 1 t 64 (lit< tt) (omega arith) ∙ one-mul (2 ^ t);
      positive = pow_pos t;
      inside = low-le 64 w h l;
      places = places;
      count = sym (length-places 64 0 w l) ∙ ap length places ∙ ap suc (length-places 64 0 (w - 2 ^ t) less);
    }
