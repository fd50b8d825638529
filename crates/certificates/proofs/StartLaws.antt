-- Laws of START's body: its stakes and keys as the code reads them, one law for each way out, and what follows from a good setup. Assumes nothing.
use Prim.Native.Nat.{ℕ, zero, suc, ◌+◌, ◌-◌, ◌*◌, ◌≤◌, ◌<◌}
use mathlib.Core.Path.{◌≡◌, refl, sym, ap, ◌∙◌}
use mathlib.Core.List.{List, [], ◌∷◌}
use mathlib.Core.Bool.{Bool, true, false, cond}
use native.Mathlib.Omega.{arith}
use native.Mathlib.Numerals.{add-one}
use Rattle.std.proofs.Common.{add-zero}
use lib.ListN.{length, get_or, take, drop, set, length-set}
use lib.Seq.{take-suc, take_all, take-suc-set}
use lib.Dec.{eqb, ltb, leb}
use borrow.Author.Tests.{lt-ltb, le-ltb, ltb-true, ltb-false, leb-true, eqb-true}
use Rattle.std.specs.Prelude.{Option, None, Some}
use Rattle.certificates.specs.declared.numbers.Stake.{Stake}
use Rattle.certificates.specs.Num.{le, num_at, nums_at}
use Rattle.certificates.specs.Config.{members_max, sum, stake_of, limited, setup_of}
use Rattle.certificates.specs.Start.{members_at, member_len, key_len, word_len, same_word, member_count, own_place, stakes_in, key_at, keys_from, keys_in, below, ascending, setup_at, padded, loaded_stakes}
use Rattle.certificates.proofs.Bytes.{single, joined, num-within, length-nums, nums_at_lem}
use Rattle.certificates.proofs.ConfigLaws.{within, stake-none, setup-many, setup-some}

module _ (body : List ℕ) where
  pub length-stakes : length (stakes_in body) ≡ member_count body
  unfolding stakes_in
  length-stakes = length-nums 4 member_len (member_count body) body (members_at + key_len)

  -- the stake of a member that the body names, and of another
  pub stakes-at : (i : ℕ) {n x : ℕ} → n ≡ member_count body → i < n → x ≡ num_at 4 body (members_at + key_len + member_len * i) → x ≡ stake_of (stakes_in body) i
  unfolding stakes_in stake_of
  stakes-at i e h f = f ∙ sym (nums_at_lem 4 member_len (member_count body) body (members_at + key_len) i (omega (arith, e)))

  pub stakes-past : (i : ℕ) {n : ℕ} → n ≡ member_count body → n ≤ i → 0 ≡ stake_of (stakes_in body) i
  stakes-past i e h = stake-none (stakes_in body) i (omega (arith, e, length-stakes))

-- ---- keys

-- two keys whose first i bytes are passed: what is left of them decides as the whole
pub record Compared (body : List ℕ) (a b i : ℕ) : Type 0 where
  pub rest : below (nums_at 1 1 (key_len - i) body (a + i)) (nums_at 1 1 (key_len - i) body (b + i)) ≡ below (key_at body a) (key_at body b)

pub compared-none : (body : List ℕ) (a b : ℕ) → Compared body a b 0
unfolding key_at
compared-none body a b = record { rest = rw add-zero (rw add-zero) }

module _ {body : List ℕ} {a b i : ℕ} (k : Compared body a b i) where
  compared-step : i < key_len
      → cond (ltb (num_at 1 body (a + i)) (num_at 1 body (b + i))) true
      (cond (ltb (num_at 1 body (b + i)) (num_at 1 body (a + i))) false
      (below (nums_at 1 1 (key_len - (i + 1)) body (a + (i + 1))) (nums_at 1 1 (key_len - (i + 1)) body (b + (i + 1)))))
      ≡ below (key_at body a) (key_at body b)
  unfolding below nums_at
  compared-step h =
      let e : key_len - i ≡ suc (key_len - (i + 1)) = omega arith in
      let p : a + i + 1 ≡ a + (i + 1) = omega arith in
      let q : b + i + 1 ≡ b + (i + 1) = omega arith in
      rw (p, q) at (rw e at k.rest)

  module _ {u v : ℕ} (h : i < key_len) (e : u ≡ num_at 1 body (a + i)) (f : v ≡ num_at 1 body (b + i)) where
    pub compared-other : (u ≡ v → ⊥) → ltb u v ≡ below (key_at body a) (key_at body b)
    compared-other n = other (ltb u v) refl
      where
        other : (t : Bool) → ltb u v ≡ t → ltb u v ≡ below (key_at body a) (key_at body b)
        other true l = l ∙ rw (← e, ← f, l) at (compared-step h)
        other false l = l ∙ rw (← e, ← f, l, lt-ltb v u (omega (arith, ltb-false u v l))) at (compared-step h)

    pub compared_same : u ≡ v → Compared body a b (i + 1)
    compared_same s = record { rest = rw (← e, ← f, s, le-ltb v v (omega arith)) at (compared-step h) }

  pub compared-all : key_len ≤ i → false ≡ below (key_at body a) (key_at body b)
  unfolding below nums_at
  compared-all h =
      let e : key_len - i ≡ 0 = omega arith in
      rw e at k.rest

-- a word that is passed
pub record PassedWord (body : List ℕ) (a b i : ℕ) : Type 0 where
  pub long : i + word_len ≤ key_len
  pub next : Compared body a b (i + word_len)

from-word : (s p q : Bool) (m n : ℕ) → true ≡ cond s false (cond p (cond q (eqb m n) false) false) → (s ≡ false) × (p ≡ true) × (q ≡ true) × (m ≡ n)
from-word true p q m n e = absurd (cc)
from-word false false q m n e = absurd (cc)
from-word false true false m n e = absurd (cc)
from-word false true true m n e = (refl, refl, refl, eqb-true m n (sym e))

-- a number of w + 1 bytes is its lowest byte, and the others
module _ (body : List ℕ) (bytes : (i : ℕ) → get_or body i 0 < 256) where
  first_byte : (w x : ℕ) → x + suc w ≤ length body → (num_at 1 body x < 256) × (le (take (suc w) (drop x body)) ≡ num_at 1 body x + 256 * le (take w (drop (x + 1) body)))
  first_byte w x h =
      let one : get_or body x 0 ≡ le (take 1 (drop x body)) = single body x (omega arith) in
      let read : get_or body x 0 ≡ num_at 1 body x = num-within body x 1 one (omega arith) in
      let low : get_or body x 0 < 256 = bytes x in
      let both : get_or body x 0 + 256 * le (take w (drop (x + 1) body)) ≡ le (take (1 + w) (drop x body)) = joined body x 1 w one refl (omega arith) in
      let long : 1 + w ≡ suc w = omega arith in
      (omega (arith, read, low), rw (long, read) at (sym both))

  -- bytes that make the same number are the same, and are passed together
  pub compared-bytes : (w : ℕ) {a b i : ℕ} → Compared body a b i → i + w ≤ key_len → a + i + w ≤ length body → b + i + w ≤ length body
      → le (take w (drop (a + i) body)) ≡ le (take w (drop (b + i) body)) → Compared body a b (i + w)
  compared-bytes zero {a} {b} {i} k h hx hy e = rw add-zero k
  compared-bytes (suc w) {a} {b} {i} k h hx hy e =
      let u = first_byte w (a + i) hx in
      let v = first_byte w (b + i) hy in
      let p : a + i + 1 ≡ a + (i + 1) = omega arith in
      let q : b + i + 1 ≡ b + (i + 1) = omega arith in
      let same : num_at 1 body (a + i) ≡ num_at 1 body (b + i) = omega (arith, u.0, v.0, u.1, v.1, e) in
      let rest : le (take w (drop (a + i + 1) body)) ≡ le (take w (drop (b + i + 1) body)) = omega (arith, u.0, v.0, u.1, v.1, e) in
      let next = compared_same k (omega arith) refl refl same in
      let all = compared-bytes w next (omega arith) (omega arith) (omega arith) (rw (p, q) at rest) in
      let s : i + suc w ≡ i + 1 + w = omega arith in
      rw s all

  pub compared-word : {a b i : ℕ} {t : Bool} → Compared body a b i → t ≡ same_word body (a + i) (b + i) (key_len - i) → t ≡ true → PassedWord body a b i
  unfolding same_word
  compared-word {a} {b} {i} k e t =
      let x = a + i in
      let y = b + i in
      let g = from-word (ltb (key_len - i) word_len) (leb (x + word_len) (length body)) (leb (y + word_len) (length body)) (num_at word_len body x) (num_at word_len body y) (sym t ∙ e) in
      let long : i + word_len ≤ key_len = omega (arith, ltb-false (key_len - i) word_len g.0) in
      let hx : x + word_len ≤ length body = leb-true _ _ g.1 in
      let hy : y + word_len ≤ length body = leb-true _ _ g.2 in
      let u : le (take word_len (drop x body)) ≡ num_at word_len body x = num-within body x word_len refl hx in
      let v : le (take word_len (drop y body)) ≡ num_at word_len body y = num-within body y word_len refl hy in
      record { long = long; next = compared-bytes word_len k long hx hy (u ∙ g.3 ∙ sym v) }

-- keys of which those before key i are below the next: from key i - 1 on they ascend where all do
pub record Ascended (body : List ℕ) (n i : ℕ) : Type 0 where
  pub rest : ascending (keys_from (n + 1 - i) body (members_at + member_len * i - member_len)) ≡ ascending (keys_from n body members_at)

first_keys : (body : List ℕ) (j at : ℕ) → ascending (keys_from (suc (suc j)) body at)
    ≡ cond (below (key_at body at) (key_at body (at + member_len))) (ascending (keys_from (suc j) body (at + member_len))) false
unfolding ascending keys_from
first_keys body j at = refl

module _ {body : List ℕ} {n i : ℕ} (k : Ascended body n i) (some : 1 ≤ i) where
  ascended-step : i < n → cond (below (key_at body (members_at + member_len * i - member_len)) (key_at body (members_at + member_len * i)))
      (ascending (keys_from (n - i) body (members_at + member_len * i))) false
      ≡ ascending (keys_from n body members_at)
  ascended-step h =
      let e : n + 1 - i ≡ suc (suc (n - i - 1)) = omega arith in
      let f : n - i ≡ suc (n - i - 1) = omega arith in
      let g : members_at + member_len * i - member_len + member_len ≡ members_at + member_len * i = omega arith in
      rw f (sym (rw g at (first_keys body (n - i - 1) (members_at + member_len * i - member_len))) ∙ (rw e at k.rest))

  pub ascended-more : {t : Bool} → i < n → t ≡ below (key_at body (members_at + member_len * i - member_len)) (key_at body (members_at + member_len * i)) → t ≡ true → Ascended body n (i + 1)
  ascended-more h e y =
      let f : n + 1 - (i + 1) ≡ n - i = omega arith in
      let g : members_at + member_len * (i + 1) - member_len ≡ members_at + member_len * i = omega arith in
      record { rest = rw (f, g) (rw (← e, y) at (ascended-step h)) }

  pub ascended-not : {t : Bool} → i < n → t ≡ below (key_at body (members_at + member_len * i - member_len)) (key_at body (members_at + member_len * i)) → t ≡ false
      → false ≡ ascending (keys_from n body members_at)
  ascended-not h e y = rw (← e, y) at (ascended-step h)

  pub ascended-all : n ≤ i → true ≡ ascending (keys_from n body members_at)
  unfolding ascending keys_from
  ascended-all h = few (n + 1 - i) _ (omega arith) k.rest
    where
      few : (j at : ℕ) → j ≤ 1 → ascending (keys_from j body at) ≡ ascending (keys_from n body members_at) → true ≡ ascending (keys_from n body members_at)
      few zero at l e = e
      few (suc zero) at l e = e
      few (suc (suc j)) at l e = absurd (omega arith)

-- ---- the setup

module _ (body : List ℕ) {n own : ℕ} (e : n ≡ member_count body) (f : own ≡ own_place body) where
  pub start-own : n ≤ own → None ≡ setup_at body
  unfolding setup_at
  start-own h = no_own (ascending (keys_in body))
    where
      no_own : (b : Bool) → None ≡ cond b (cond (ltb (own_place body) (member_count body)) (setup_of (stakes_in body)) None) None
      no_own true = rw (← e, ← f, le-ltb own n h)
      no_own false = refl

  pub start-many : own < n → members_max < n → None ≡ setup_at body
  unfolding setup_at
  start-many l h = many (ascending (keys_in body))
    where
      bad : None ≡ setup_of (stakes_in body)
      bad = setup-many (stakes_in body) (λ z. omega (arith, length-stakes body)) (omega (arith, length-stakes body))

      many : (b : Bool) → None ≡ cond b (cond (ltb (own_place body) (member_count body)) (setup_of (stakes_in body)) None) None
      many true = rw (← e, ← f, lt-ltb own n l) bad
      many false = refl

  module _ {t : Bool} (g : t ≡ ascending (keys_from n body members_at)) where
    keys : t ≡ ascending (keys_in body)
    unfolding keys_in
    keys = rw (← e) g

    pub start-keys : t ≡ false → None ≡ setup_at body
    unfolding setup_at
    start-keys y = rw (← keys, y)

    pub start-good : t ≡ true → own < n → n ≤ members_max → {total : ℕ} {r : Option Stake} → total ≡ sum (stakes_in body) → r ≡ limited total → r ≡ setup_at body
    unfolding setup_at
    start-good y l h p q =
        rw (← keys, y) (rw (← f, ← e, lt-ltb own n l)
        (setup-some (stakes_in body) (λ z. omega (arith, length-stakes body)) (omega (arith, length-stakes body)) p q))

-- ---- what a good setup is known for

from-tests : (keys own : Bool) (r : Option Stake) (t : Stake) → cond keys (cond own r None) None ≡ Some t → (own ≡ true) × (r ≡ Some t)
from-tests true true r t e = (refl, e)
from-tests true false r t e = absurd (cc)
from-tests false own r t e = absurd (cc)

pub record Started (body : List ℕ) (t : Stake) : Type 0 where
  pub some : 0 < member_count body
  pub few : member_count body ≤ members_max
  pub own : own_place body < member_count body
  pub members : setup_of (stakes_in body) ≡ Some t

pub started : (body : List ℕ) (t : Stake) → setup_at body ≡ Some t → Started body t
unfolding setup_at
started body t e =
    let k = from-tests (ascending (keys_in body)) (ltb (own_place body) (member_count body)) (setup_of (stakes_in body)) t e in
    let w = within (stakes_in body) t k.1 in
    record {
      some = omega (arith, length-stakes body);
      few = omega (arith, length-stakes body);
      own = ltb-true (own_place body) (member_count body) k.0;
      members = k.1;
    }

-- ---- the stakes as they are loaded

pub length-padded : (n : ℕ) (xs : List ℕ) → length (padded n xs) ≡ n
unfolding padded
length-padded zero xs = refl
length-padded (suc n) [] = ap suc (length-padded n [])
length-padded (suc n) (x ∷ xs) = ap suc (length-padded n xs)

pub padded-at : (n : ℕ) (xs : List ℕ) (i : ℕ) → i < n → get_or (padded n xs) i 0 ≡ get_or xs i 0
unfolding padded
padded-at zero xs i h = absurd (omega arith)
padded-at (suc n) [] zero h = refl
padded-at (suc n) [] (suc i) h = padded-at n [] i (omega arith)
padded-at (suc n) (x ∷ xs) zero h = refl
padded-at (suc n) (x ∷ xs) (suc i) h = padded-at n xs i (omega arith)

pub take-padded : (n : ℕ) (xs : List ℕ) → length xs ≤ n → take (length xs) (padded n xs) ≡ xs
unfolding padded
take-padded n [] h = refl
take-padded zero (x ∷ xs) h = absurd (omega arith)
take-padded (suc n) (x ∷ xs) h = ap (λ (l : List ℕ). x ∷ l) (take-padded n xs (omega arith))

module _ (n : ℕ) (body : List ℕ) where
  pub length-loaded : length (loaded_stakes n body) ≡ n
  unfolding loaded_stakes
  length-loaded = length-padded n (stakes_in body)

  pub loaded_at : (i : ℕ) → i < n → get_or (loaded_stakes n body) i 0 ≡ stake_of (stakes_in body) i
  unfolding loaded_stakes stake_of
  loaded_at i h = padded-at n (stakes_in body) i h

  -- the members of the body are the first of what was loaded
  pub loaded-members : member_count body ≤ n → take (member_count body) (loaded_stakes n body) ≡ stakes_in body
  unfolding loaded_stakes
  loaded-members h = rw (← length-stakes body) (take-padded n (stakes_in body) (omega (arith, length-stakes body)))

-- the committee that was loaded keeps the limits, as the body did
pub loaded-setup : (n : ℕ) (body : List ℕ) (t : Stake) → members_max ≤ n → setup_at body ≡ Some t → setup_of (take (member_count body) (loaded_stakes n body)) ≡ Some t
loaded-setup n body t h e =
    let s = started body t e in
    let few : member_count body ≤ n = omega arith in
    rw (loaded-members n body few) s.members

-- a loop that loads: the first places hold what they shall
pub record Loaded (n : ℕ) (body : List ℕ) (i : ℕ) (stakes : List ℕ) : Type 0 where
  pub size : length stakes ≡ n
  pub first : take i stakes ≡ take i (loaded_stakes n body)

module _ {n : ℕ} {body : List ℕ} {i : ℕ} {stakes : List ℕ} (k : Loaded n body i stakes) where
  pub loaded-more : (x : ℕ) → i < length stakes → x ≡ stake_of (stakes_in body) i → Loaded n body (i + 1) (set stakes i x)
  loaded-more x h e =
      let l : i < n = omega (arith, k.size) in
      let l' : i < length (loaded_stakes n body) = omega (arith, length-loaded n body) in
      record {
        size = simp length-set k.size;
        first = rw (add-one, take-suc-set stakes i x h, take-suc (loaded_stakes n body) i 0 l', loaded_at n body i l, ← e, k.first);
      }

  pub loaded-all : length stakes ≤ i → stakes ≡ loaded_stakes n body
  loaded-all h = sym (take_all i stakes h) ∙ k.first ∙ take_all i (loaded_stakes n body) (omega (arith, k.size, length-loaded n body))
