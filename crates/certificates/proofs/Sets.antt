-- Sets of places over a list of words: member, distinct, count, stake and overlap, for any number of words. Each law is an induction on the words by
-- the law of one word. Today's signers are one word (`words-with`). Assumes nothing.
use Prim.Native.Nat.{ℕ, zero, suc, ◌+◌, ◌-◌, ◌*◌, ◌%◌, ◌^◌, ◌≤◌, ◌<◌, min}
use mathlib.Core.Path.{◌≡◌, refl, sym, ap, ◌∙◌}
use mathlib.Core.Logic.{◌≢◌, by_cases}
use mathlib.Core.List.{List, [], ◌∷◌}
use native.Mathlib.Decide.{dec_lt}
use native.Mathlib.Omega.{arith}
use lib.ListN.{length, get_or, take, drop, replicate, length-take}
use lib.Seq.{get_or-take, get_or-drop}
use lib.Bits.{bit_or}
use lib.Count.{ones, count_trailing_zeros}
use lib.Dec.{lit<}
use lib.Pow.{pow_pos}
use borrow.Author.Tests.{lt-ltb, le-ltb}
use Rattle.certificates.specs.declared.numbers.Signers.{Signers}
use Rattle.certificates.specs.Config.{members_max, sum, stake_of}
use Rattle.certificates.specs.Signers.{bit_of, sum_at, word_bits, is_in, count_in, stake_in, add_to, both, either, words, with_signer, weight_of}
use Rattle.certificates.proofs.ConfigLaws.{sum-split, stake-member}
use Rattle.certificates.proofs.Words.{bit-none, bit-set-same, bit-set-other, bit-small, ones-set, sum-set, sum-none, sum-le, sum-or-and, sum_same, bit-and, some_more}
use Rattle.certificates.proofs.Words.{shift_one, low-lt, low-le, sum_low, take-small, sum-small}

-- ---- a place of the first word, and one past it

module _ (w : ℕ) (ws : List ℕ) (p : ℕ) where
  pub in-low : p < word_bits → is_in (w ∷ ws) p ≡ bit_of w p
  unfolding is_in
  in-low h = rw (lt-ltb p word_bits h)

  pub in-high : word_bits ≤ p → is_in (w ∷ ws) p ≡ is_in ws (p - word_bits)
  unfolding is_in
  in-high h = rw (le-ltb p word_bits h)

  pub add_low : p < word_bits → add_to (w ∷ ws) p ≡ bit_or w (2 ^ p) ∷ ws
  unfolding add_to
  add_low h = rw (lt-ltb p word_bits h)

  pub add-high : word_bits ≤ p → add_to (w ∷ ws) p ≡ w ∷ add_to ws (p - word_bits)
  unfolding add_to
  add-high h = rw (le-ltb p word_bits h)

module _ (m : List ℕ) (p : ℕ) where
  stake-low : p < word_bits → get_or (take word_bits m) p 0 ≡ stake_of m p
  unfolding stake_of
  stake-low h = get_or-take word_bits m p 0 h

  stake-high : word_bits ≤ p → stake_of (drop word_bits m) (p - word_bits) ≡ stake_of m p
  unfolding stake_of
  stake-high h = get_or-drop word_bits m (p - word_bits) 0 ∙ ap (λ (j : ℕ). get_or m j 0) (omega arith)

  stake-past : stake_of (drop word_bits m) p ≡ stake_of m (p + word_bits)
  unfolding stake_of
  stake-past = get_or-drop word_bits m p 0 ∙ ap (λ (j : ℕ). get_or m j 0) (omega arith)

-- ---- member

in-past : (w : ℕ) (ws : List ℕ) (p : ℕ) → is_in (w ∷ ws) (p + word_bits) ≡ is_in ws p
in-past w ws p = in-high w ws (p + word_bits) (omega arith) ∙ ap (λ (j : ℕ). is_in ws j) (omega arith)

none_in : (p : ℕ) → is_in [] p ≡ 0
unfolding is_in
none_in p = refl

pub in-none : (n p : ℕ) → is_in (replicate n 0) p ≡ 0
unfolding is_in
in-none zero p = refl
in-none (suc n) p =
    by_cases (dec_lt p word_bits)
    (λ l. rw (lt-ltb p word_bits l) (bit-none p))
    (λ n'. let g : word_bits ≤ p = omega arith in rw (le-ltb p word_bits g) (in-none n (p - word_bits)))

pub in_small : (ws : List ℕ) (p : ℕ) → is_in ws p ≤ 1
unfolding is_in
in_small [] p = omega arith
in_small (w ∷ ws) p =
    by_cases (dec_lt p word_bits)
    (λ l. rw (lt-ltb p word_bits l) (bit-small w p))
    (λ n. let g : word_bits ≤ p = omega arith in rw (le-ltb p word_bits g) (in_small ws (p - word_bits)))

pub in-add-same : (ws : List ℕ) (p : ℕ) → p < word_bits * length ws → is_in (add_to ws p) p ≡ 1
in-add-same [] p h = absurd (omega arith)
in-add-same (w ∷ ws) p h =
    by_cases (dec_lt p word_bits)
    (λ l. rw (add_low w ws p l, in-low (bit_or w (2 ^ p)) ws p l) (bit-set-same p w))
    (λ n.
    let g : word_bits ≤ p = omega arith in
    rw (add-high w ws p g, in-high w (add_to ws (p - word_bits)) p g) (in-add-same ws (p - word_bits) (omega arith)))

pub in-add-other : (ws : List ℕ) (p q : ℕ) → q ≢ p → is_in (add_to ws p) q ≡ is_in ws q
unfolding add_to
in-add-other [] p q h = refl
in-add-other (w ∷ ws) p q h =
    by_cases (dec_lt p word_bits)
    (λ l. rw (lt-ltb p word_bits l) (by_cases (dec_lt q word_bits)
    (λ k. in-low (bit_or w (2 ^ p)) ws q k ∙ bit-set-other p q w h ∙ sym (in-low w ws q k))
    (λ n. let g : word_bits ≤ q = omega arith in in-high (bit_or w (2 ^ p)) ws q g ∙ sym (in-high w ws q g))))
    (λ n.
    let f : word_bits ≤ p = omega arith in
    rw (le-ltb p word_bits f) (by_cases (dec_lt q word_bits)
    (λ k. in-low w (add_to ws (p - word_bits)) q k ∙ sym (in-low w ws q k))
    (λ n'.
    let g : word_bits ≤ q = omega arith in
    let other : q - word_bits ≢ p - word_bits = λ e. h (omega arith) in
    in-high w (add_to ws (p - word_bits)) q g ∙ in-add-other ws (p - word_bits) (q - word_bits) other ∙ sym (in-high w ws q g))))

pub in_both : (vs ws : List ℕ) (p : ℕ) → is_in (both vs ws) p ≡ min (is_in vs p) (is_in ws p)
unfolding both is_in
in_both [] ws p = omega arith
in_both (v ∷ vs) [] p = omega arith
in_both (v ∷ vs) (w ∷ ws) p =
    by_cases (dec_lt p word_bits)
    (λ l. rw (lt-ltb p word_bits l) (bit-and p v w))
    (λ n. let g : word_bits ≤ p = omega arith in rw (le-ltb p word_bits g) (in_both vs ws (p - word_bits)))

-- ---- count

pub count_none : (n : ℕ) → count_in (replicate n 0) ≡ 0
unfolding count_in ones
count_none zero = refl
count_none (suc n) = omega (arith, count_none n)

pub count_add : (ws : List ℕ) (p : ℕ) → p < word_bits * length ws → is_in ws p ≡ 0 → count_in (add_to ws p) ≡ suc (count_in ws)
unfolding count_in
count_add [] p h e = absurd (omega arith)
count_add (w ∷ ws) p h e =
    by_cases (dec_lt p word_bits)
    (λ l. rw (add_low w ws p l) (omega (arith, ones-set p w (sym (in-low w ws p l) ∙ e))))
    (λ n.
    let g : word_bits ≤ p = omega arith in
    rw (add-high w ws p g) (omega (arith, count_add ws (p - word_bits) (omega arith) (sym (in-high w ws p g) ∙ e))))

-- ---- stake

pub stake-in-none : (m : List ℕ) (n : ℕ) → stake_in m (replicate n 0) ≡ 0
unfolding stake_in
stake-in-none m zero = refl
stake-in-none m (suc n) = omega (arith, sum-none (take word_bits m), stake-in-none (drop word_bits m) n)

pub stake-in-add : (m ws : List ℕ) (p : ℕ) → p < word_bits * length ws → is_in ws p ≡ 0 → stake_in m (add_to ws p) ≡ stake_of m p + stake_in m ws
unfolding stake_in
stake-in-add m [] p h e = absurd (omega arith)
stake-in-add m (w ∷ ws) p h e =
    by_cases (dec_lt p word_bits)
    (λ l. rw (add_low w ws p l) (omega (arith, sum-set (take word_bits m) p w (sym (in-low w ws p l) ∙ e), stake-low m p l)))
    (λ n.
    let g : word_bits ≤ p = omega arith in
    rw (add-high w ws p g)
    (omega (arith, stake-in-add (drop word_bits m) ws (p - word_bits) (omega arith) (sym (in-high w ws p g) ∙ e), stake-high m p g)))

pub stake-in-le : (m ws : List ℕ) → stake_in m ws ≤ sum m
unfolding stake_in
stake-in-le m [] = omega arith
stake-in-le m (w ∷ ws) = omega (arith, sum-le (take word_bits m) w, stake-in-le (drop word_bits m) ws, sum-split word_bits m)

-- ---- overlap

-- what two sets have together and in common
pub stake-either-both : (m vs ws : List ℕ) → stake_in m (either vs ws) + stake_in m (both vs ws) ≡ stake_in m vs + stake_in m ws
unfolding stake_in either both
stake-either-both m [] ws = omega arith
stake-either-both m (v ∷ vs) [] = omega arith
stake-either-both m (v ∷ vs) (w ∷ ws) = omega (arith, sum-or-and (take word_bits m) v w, stake-either-both (drop word_bits m) vs ws)

-- a first word with the greater stake has a place that adds to it and that the other lacks
more-low : (m : List ℕ) (v w : ℕ) → sum_at (take word_bits m) w < sum_at (take word_bits m) v
    → (p : ℕ) × (p < word_bits) × (bit_of v p ≡ 1) × (bit_of w p ≡ 0) × (stake_of m p ≢ 0)
unfolding stake_of
more-low m v w h =
    let t = some_more (take word_bits m) v w h in
    let l = stake-member (take word_bits m) t.0 t.3 in
    let low : t.0 < word_bits = omega (arith, length-take word_bits m) in
    (t.0, low, t.1, t.2, λ e. t.3 (get_or-take word_bits m t.0 0 low ∙ e))

-- the set with the greater stake has a member that adds to it and that the other lacks
pub stake-some-more : (m vs ws : List ℕ) → stake_in m ws < stake_in m vs → (p : ℕ) × (is_in vs p ≡ 1) × (is_in ws p ≡ 0) × (stake_of m p ≢ 0)
unfolding stake_in
stake-some-more m [] ws h = absurd (omega arith)
stake-some-more m (v ∷ vs) [] h =
    by_cases (dec_lt 0 (sum_at (take word_bits m) v))
    (λ l.
    let t = more-low m v 0 (omega (arith, sum-none (take word_bits m))) in
    (t.0, in-low v vs t.0 t.1 ∙ t.2, none_in t.0, t.4))
    (λ n.
    let t = stake-some-more (drop word_bits m) vs [] (omega arith) in
    (t.0 + word_bits, in-past v vs t.0 ∙ t.1, none_in (t.0 + word_bits), λ e. t.3 (stake-past m t.0 ∙ e)))
stake-some-more m (v ∷ vs) (w ∷ ws) h =
    by_cases (dec_lt (sum_at (take word_bits m) w) (sum_at (take word_bits m) v))
    (λ l.
    let t = more-low m v w l in
    (t.0, in-low v vs t.0 t.1 ∙ t.2, in-low w ws t.0 t.1 ∙ t.3, t.4))
    (λ n.
    let t = stake-some-more (drop word_bits m) vs ws (omega arith) in
    (t.0 + word_bits, in-past v vs t.0 ∙ t.1, in-past w ws t.0 ∙ t.2, λ e. t.3 (stake-past m t.0 ∙ e)))

-- sets of as many words with the same members have the same stake
pub stake-same : (m vs ws : List ℕ) → length vs ≡ length ws → ((p : ℕ) → is_in vs p ≡ is_in ws p) → stake_in m vs ≡ stake_in m ws
unfolding stake_in
stake-same m [] [] l h = refl
stake-same m [] (w ∷ ws) l h = absurd (omega arith)
stake-same m (v ∷ vs) [] l h = absurd (omega arith)
stake-same m (v ∷ vs) (w ∷ ws) l h =
    let few : length (take word_bits m) ≤ word_bits = omega (arith, length-take word_bits m) in
    let low : sum_at (take word_bits m) v ≡ sum_at (take word_bits m) w =
    sum_same (take word_bits m) v w (λ p k. let b : p < word_bits = omega arith in sym (in-low v vs p b) ∙ h p ∙ in-low w ws p b)
    in
    let high : stake_in (drop word_bits m) vs ≡ stake_in (drop word_bits m) ws =
    stake-same (drop word_bits m) vs ws (omega arith) (λ p. sym (in-past v vs p) ∙ h (p + word_bits) ∙ in-past w ws p)
    in
    omega arith

-- ---- signers: one word has room for the most members, and one more of them is one more in its set

pub words-room : (s : Signers) → word_bits * length (words s) ≡ members_max
words-room s = refl

pub words-with : (s : Signers) (p : ℕ) → p < members_max → add_to (words s) p ≡ words (with_signer s p)
words-with s p h = add_low s.0 [] p h

pub words_count : (s : Signers) → count_in (words s) ≡ ones s.0
unfolding count_in
words_count s = omega arith

-- ---- a loop over the places of a word, the lowest first

-- what a turn needs of the lowest place t: it is below the width, part of the word, and what it adds
pub record Lowest (m : List ℕ) (w t : ℕ) : Type 0 where
  pub below : t < word_bits
  pub shifted : 1 * 2 ^ t % 2 ^ word_bits ≡ 2 ^ t
  pub positive : 0 < 2 ^ t
  pub inside : 2 ^ t ≤ w
  pub adds : sum_at (take word_bits m) w ≡ stake_of m t + sum_at (take word_bits m) (w - 2 ^ t)

pub lowest : (m : List ℕ) (w : ℕ) → 0 < w → w < 2 ^ word_bits → Lowest m w (count_trailing_zeros word_bits w)
lowest m w p h =
    let l = low-lt word_bits w p h in
    record {
      below = l;
      shifted = shift_one (count_trailing_zeros word_bits w) l;
      positive = pow_pos (count_trailing_zeros word_bits w);
      inside = low-le word_bits w p h;
      adds = omega (arith, sum_low word_bits (take word_bits m) w p h, stake-low m (count_trailing_zeros word_bits w) l);
    }

-- the sum of a word fits
pub word_small : (m : List ℕ) (w : ℕ) → ((i : ℕ) → get_or m i 0 < 2 ^ 32) → sum_at (take word_bits m) w < 2 ^ 64
word_small m w h =
    omega (arith, sum-small (2 ^ 32) word_bits (take word_bits m) w (omega (arith, length-take word_bits m)) (take-small (2 ^ 32) word_bits m (lit< tt) h))

pub word_none : (m : List ℕ) → sum_at (take word_bits m) 0 ≡ 0
word_none m = sum-none (take word_bits m)

pub word-weight : (m : List ℕ) (s : Signers) → sum_at (take word_bits m) s.0 ≡ weight_of m s
unfolding weight_of stake_in
word-weight m s = omega arith
