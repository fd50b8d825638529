-- Laws of a table that lies in one list, row after row. Nothing here knows what a row means. In order:
--     lowest-..., none...    what a search says of the rows
--     part-..., put-...      a row that is lent as a part, and the table once it is back
--     row-...                the numbers and the place of a row
--     Mapped, map-...        a table of which i rows are replaced
--     with_row-...           a table with another row i
--     map_rows-...           a table with every row replaced
--     zeros-...              a table of zeros
--     sets-whole, one_shl    a row that is written whole; a bit that is shifted to its place
-- Assumes nothing.
use Prim.Native.Nat.{ℕ, zero, suc, ◌+◌, ◌-◌, ◌*◌, ◌%◌, ◌^◌, ◌≤◌, ◌<◌}
use mathlib.Core.Bool.{Bool, true, false, cond}
use mathlib.Core.List.{List, [], ◌++◌, append_assoc, append-nil}
use mathlib.Core.Logic.{⊎_elim}
use Rattle.std.proofs.Common.{Option, Some, None, is_some}
use mathlib.Core.Path.{◌≡◌, refl, ap, sym, ◌∙◌}
use native.Mathlib.Nat.{zero-mul, suc-mul, add_comm, mul-le-mul_right, one-mul, eq-or-lt_of_le}
use native.Mathlib.Numerals.{add-one}
use native.Mathlib.Omega.{arith}
use borrow.Rule.Slice.PartMut.{put_mid}
use lib.Dec.{lit<}
use lib.Pow.{shl_exact}
use lib.ListN.{length, get_or, take, drop, length-append, length-take, length-drop, drop_of_length-le, take-append-drop}
use lib.Seq.{take-append-add, drop-append-add, get_or-take, get_or-drop, sets, sets-eq, take_at, drop_at, drop-drop, length-take-le}
use Rattle.aggregator.specs.Rows.{zeros, row, with_row, lowest, map_rows, FoundAs}

-- ---- a search

-- where no row is found there is none
pub none_found : (r : Option ℕ) → ((i : ℕ) → r ≡ Some i → ⊥) → r ≡ None
none_found (Some i) h = absurd (h i refl)
none_found None h = refl

module _ (p : List ℕ → Bool) (w : ℕ) (v : List ℕ) where
  below-cond : (b : Bool) (k i n : ℕ) (f : Option ℕ) → (f ≡ Some i → i < suc k + n) → cond b (Some k) f ≡ Some i → i < k + suc n
  below-cond true k i n f h e = let z : k ≡ i = cc in omega arith
  below-cond false k i n f h e = omega (arith, h e)

  -- what is found is one of the rows
  pub lowest-below : (n k i : ℕ) → lowest p w v n k ≡ Some i → i < k + n
  lowest-below zero k i e = let z : ◌≡◌ {A = ℕ} 0 1 = cc in omega arith
  lowest-below (suc n) k i e = below-cond (p (row w v k)) k i n (lowest p w v n (suc k)) (lowest-below n (suc k) i) e

  hit : (b : Bool) (k i : ℕ) (f : Option ℕ) → b ≡ p (row w v k) → (f ≡ Some i → p (row w v i) ≡ true) → cond b (Some k) f ≡ Some i → p (row w v i) ≡ true
  hit true k i f e h q = let z : k ≡ i = cc in rw (← z) (sym e)
  hit false k i f e h q = h q

  -- and passes
  pub lowest-holds : (n k i : ℕ) → lowest p w v n k ≡ Some i → p (row w v i) ≡ true
  lowest-holds zero k i e = absurd (let z : ◌≡◌ {A = ℕ} 0 1 = cc in omega arith)
  lowest-holds (suc n) k i e = hit (p (row w v k)) k i (lowest p w v n (suc k)) refl (lowest-holds n (suc k) i) e

  miss : (b : Bool) (k : ℕ) (f : Option ℕ) → cond b (Some k) f ≡ None → (b ≡ false) × (f ≡ None)
  miss true k f q = absurd (let z : ◌≡◌ {A = ℕ} 0 1 = cc in omega arith)
  miss false k f q = (refl, q)

  -- where none is found, none passes
  pub lowest-none : (n k i : ℕ) → lowest p w v n k ≡ None → k ≤ i → i < k + n → p (row w v i) ≡ false
  lowest-none zero k i e a b = absurd (omega arith)
  lowest-none (suc n) k i e a b =
      let m = miss (p (row w v k)) k (lowest p w v n (suc k)) e in
      ⊎_elim (λ (z : k ≡ i). rw (← z) m.0) (λ (z : k < i). lowest-none n (suc k) i m.1 (omega arith) (omega arith)) (eq-or-lt_of_le a)

  -- where none passes, none is found
  pub none-lowest : (n k : ℕ) → ((i : ℕ) → k ≤ i → i < k + n → p (row w v i) ≡ false) → lowest p w v n k ≡ None
  none-lowest zero k h = refl
  none-lowest (suc n) k h = rw (h k (omega arith) (omega arith)) (none-lowest n (suc k) (λ i a b. h i (omega arith) (omega arith)))

  -- the first that passes is found
  pub lowest-is : (n k i : ℕ) → k ≤ i → i < k + n → p (row w v i) ≡ true → ((j : ℕ) → k ≤ j → j < i → p (row w v j) ≡ false) → lowest p w v n k ≡ Some i
  lowest-is zero k i a b h none = absurd (omega arith)
  lowest-is (suc n) k i a b h none =
      ⊎_elim (λ (z : k ≡ i). rw (z, h)) (λ (z : k < i). rw (none k (omega arith) z) (lowest-is n (suc k) i (omega arith) (omega arith) h (λ j c d. none j (omega arith) d))) (eq-or-lt_of_le a)

-- a row of the table
pub lowest-found : (p : List ℕ → Bool) (w : ℕ) (v : List ℕ) (n i : ℕ) → i < n → p (row w v i) ≡ true → ((j : ℕ) → j < i → p (row w v j) ≡ false) → FoundAs (lowest p w v n 0) n (Some i)
lowest-found p w v n i l h none = record { is = sym (lowest-is p w v n 0 i (omega arith) (omega arith) h (λ j a b. none j b)); below = λ j q. let z : i ≡ j = cc in omega arith }

-- a row that passes is found, or one below it
pub lowest-some : (p : List ℕ → Bool) (w : ℕ) (v : List ℕ) (n i : ℕ) → i < n → p (row w v i) ≡ true → is_some (lowest p w v n 0) ≡ true
lowest-some p w v n i l h = cases (lowest p w v n 0) refl
  where
    cases : (r : Option ℕ) → lowest p w v n 0 ≡ r → is_some r ≡ true
    cases (Some j) e = refl
    cases None e = absurd (let y : ◌≡◌ {A = Bool} true false = sym h ∙ lowest-none p w v n 0 i e (omega arith) (omega arith) in let z : ◌≡◌ {A = ℕ} 0 1 = cc in omega arith)

-- where no row of the table passes
pub none-found : (p : List ℕ → Bool) (w : ℕ) (v : List ℕ) (n : ℕ) → ((j : ℕ) → j < n → p (row w v j) ≡ false) → FoundAs (lowest p w v n 0) n None
none-found p w v n h = record { is = sym (none-lowest p w v n 0 (λ j a b. h j (omega arith))); below = λ j q. let z : ◌≡◌ {A = ℕ} 0 1 = cc in omega arith }

-- ---- a row that is lent as a part

-- the part from i * w to i * w + w is the row
pub part-row : (w i : ℕ) (v : List ℕ) → take (i * w + w - i * w) (drop (i * w) v) ≡ row w v i
part-row w i v = let e : i * w + w - i * w ≡ w = omega arith in rw e

-- the table once such a part is back
pub put-row : (w i : ℕ) (v r : List ℕ) → put_mid (i * w) (i * w + w - i * w) v r ≡ with_row w v i r
put-row w i v r = let e : i * w + w - i * w ≡ w = omega arith in rw e

pub put_as : (w i : ℕ) (v : List ℕ) {r s : List ℕ} → r ≡ s → put_mid (i * w) (i * w + w - i * w) v r ≡ with_row w v i s
put_as w i v {r} e = put-row w i v r ∙ ap (λ (t : List ℕ). with_row w v i t) e

-- ---- a row

pub row-length : (w i : ℕ) (v : List ℕ) → i * w + w ≤ length v → length (row w v i) ≡ w
row-length w i v h = rw (length-take, length-drop) (omega arith)

-- a row's numbers, as they lie in the table
pub row_at : (w i k : ℕ) (v : List ℕ) → k < w → get_or (row w v i) k 0 ≡ get_or v (i * w + k) 0
row_at w i k v h = rw (get_or-take, get_or-drop)

-- the rows below n lie below n * w
pub row-end : (w i n : ℕ) → i < n → i * w + w ≤ n * w
row-end w i n h = rw (← suc-mul) (mul-le-mul_right w h)

pub row_within : (w i n : ℕ) (v : List ℕ) → i < n → n * w ≤ length v → i * w + w ≤ length v
row_within w i n v h l = omega (arith, row-end w i n h)

next_row : (w k : ℕ) (v : List ℕ) → row w (drop w v) k ≡ row w v (suc k)
next_row w k v = rw (drop-drop, suc-mul, add_comm w (k * w))

module _ (a v r : List ℕ) (w i : ℕ) (long : length a ≡ w) where
  past_row : row w (a ++ v) (suc i) ≡ row w v i
  past_row = rw (suc-mul, add_comm, ← long, drop-append-add)

  past-with_row : with_row w (a ++ v) (suc i) r ≡ a ++ with_row w v i r
  past-with_row = rw (suc-mul, add_comm, ← long, drop-append-add, take-append-add, append_assoc)

-- ---- a table whose rows are replaced one by one

-- k is the table v with f applied to the first i rows
pub record Mapped (f : List ℕ → List ℕ) (w : ℕ) (v : List ℕ) (i : ℕ) (k : List ℕ) : Type 0 where
  pub is : k ≡ map_rows f w i v

module _ (f : List ℕ → List ℕ) (same : (t : List ℕ) → length (f t) ≡ length t) (w : ℕ) where
  step : (i : ℕ) (v : List ℕ) → suc i * w ≤ length v → with_row w (map_rows f w i v) i (f (row w (map_rows f w i v) i)) ≡ map_rows f w (suc i) v
  step zero v h = rw zero-mul
  step (suc i) v h =
      let more : suc i * w + w ≤ length v = rw suc-mul at h in
      let long : length (f (take w v)) ≡ w = rw (same, length-take) (omega arith) in
      let rest : suc i * w ≤ length (drop w v) = rw length-drop (omega arith) in
      past-with_row (f (take w v)) (map_rows f w i (drop w v)) (f (row w (map_rows f w (suc i) v) (suc i))) w i long ∙
      ap (λ (r : List ℕ). f (take w v) ++ with_row w (map_rows f w i (drop w v)) i (f r)) (past_row (f (take w v)) (map_rows f w i (drop w v)) [] w i long) ∙
      ap (λ (t : List ℕ). f (take w v) ++ t) (step i (drop w v) rest)

  pub map_rows-length : (n : ℕ) (v : List ℕ) → length (map_rows f w n v) ≡ length v
  map_rows-length zero v = refl
  map_rows-length (suc n) v = rw (length-append, same, map_rows-length n, length-take, length-drop) (omega arith)

  -- each of the rows is replaced
  pub map_rows-row : (n k : ℕ) (v : List ℕ) → k < n → n * w ≤ length v → row w (map_rows f w n v) k ≡ f (row w v k)
  map_rows-row zero k v h l = absurd (omega arith)
  map_rows-row (suc n) zero v h l =
      let more : n * w + w ≤ length v = rw suc-mul at l in
      rw (zero-mul, take_at (f (take w v)) (map_rows f w n (drop w v)) w (rw (same, length-take) (omega arith)))
  map_rows-row (suc n) (suc k) v h l =
      let more : n * w + w ≤ length v = rw suc-mul at l in
      let rest : n * w ≤ length (drop w v) = rw length-drop (omega arith) in
      past_row (f (take w v)) (map_rows f w n (drop w v)) [] w k (rw (same, length-take) (omega arith)) ∙
      map_rows-row n k (drop w v) (omega arith) rest ∙
      ap f (next_row w k v)

-- rows that f leaves as they are
pub map_rows-same : (f : List ℕ → List ℕ) (w n : ℕ) (v : List ℕ) → ((i : ℕ) → i < n → f (row w v i) ≡ row w v i) → map_rows f w n v ≡ v
map_rows-same f w zero v h = refl
map_rows-same f w (suc n) v h =
    let first : f (take w v) ≡ take w v = rw zero-mul at (h 0 (omega arith)) in
    let rest : map_rows f w n (drop w v) ≡ drop w v = map_rows-same f w n (drop w v) (λ i b. rw next_row (h (suc i) (omega arith))) in
    rw (first, rest) (take-append-drop w v)

module _ {f : List ℕ → List ℕ} {w : ℕ} {v k : List ℕ} {i : ℕ} (same : (t : List ℕ) → length (f t) ≡ length t) (m : Mapped f w v i k) where
  -- a turn that replaces row i by r, which is f of it
  pub map-store : (r : List ℕ) → i * w + w ≤ length v → r ≡ f (row w k i) → Mapped f w v (i + 1) (with_row w k i r)
  map-store r h e =
      let more : suc i * w ≤ length v = rw suc-mul h in
      record { is = rw (e, m.is, add-one) (step f same w i v more) }

  -- the same where the row is lent as a part
  pub map-part : (r : List ℕ) → i * w + w ≤ length v → r ≡ f (take (i * w + w - i * w) (drop (i * w) k)) → Mapped f w v (i + 1) (put_mid (i * w) (i * w + w - i * w) k r)
  map-part r h e = rw (put-row w i k r) (map-store r h (rw (← part-row w i k) e))

-- ---- a table with another row

module _ (w : ℕ) (v : List ℕ) (h : w ≤ length v) where
  first-long : length (take w v) ≡ w
  first-long = rw length-take (omega arith)

  split-row : (i : ℕ) (r : List ℕ) → with_row w v (suc i) r ≡ take w v ++ with_row w (drop w v) i r
  split-row i r =
      ap (λ (u : List ℕ). with_row w u (suc i) r) (sym (take-append-drop w v)) ∙
      past-with_row (take w v) (drop w v) r w i first-long

module _ (w i : ℕ) (v : List ℕ) where
  pub with_row-same : with_row w v i (row w v i) ≡ v
  with_row-same = rw (take-append-drop w (drop (i * w) v), take-append-drop (i * w) v)

  module _ (r : List ℕ) (long : length r ≡ w) (h : i * w + w ≤ length v) where
    front_long : length (take (i * w) v) ≡ i * w
    front_long = length-take-le (i * w) v (omega arith)

    pub with_row-row : row w (with_row w v i r) i ≡ r
    with_row-row = rw (drop_at (take (i * w) v) (r ++ drop w (drop (i * w) v)) (i * w) front_long, take_at r (drop w (drop (i * w) v)) w long)

    pub with_row-length : length (with_row w v i r) ≡ length v
    with_row-length = rw (length-append, length-append, front_long, long, length-drop, length-drop) (omega arith)

module _ (w : ℕ) (r : List ℕ) (long : length r ≡ w) where
  -- what holds of r as row i, and of each row as it is, holds of each once r is row i
  pub with_row-each : (P : ℕ → List ℕ → Type 0) (i : ℕ) (v : List ℕ) → i * w + w ≤ length v → P i r → ((k : ℕ) → P k (row w v k)) → (k : ℕ) → P k (row w (with_row w v i r) k)
  with_row-each P zero v h here all zero = rw (zero-mul, take_at r (drop w v) w long) here
  with_row-each P zero v h here all (suc k) = rw (zero-mul, past_row r (drop w v) [] w k long, next_row) (all (suc k))
  with_row-each P (suc i) v h here all zero =
      let w≤ : w ≤ length v = omega arith in
      rw (split-row w v w≤ i r, zero-mul, take_at (take w v) (with_row w (drop w v) i r) w (first-long w v w≤)) (rw zero-mul at (all zero))
  with_row-each P (suc i) v h here all (suc k) =
      let more : i * w + w + w ≤ length v = rw suc-mul at h in
      let w≤ : w ≤ length v = omega arith in
      let rest : i * w + w ≤ length (drop w v) = rw length-drop (omega arith) in
      rw (split-row w v w≤ i r, past_row (take w v) (with_row w (drop w v) i r) [] w k (first-long w v w≤))
      (with_row-each (λ (j : ℕ) (x : List ℕ). P (suc j) x) i (drop w v) rest here (λ j. rw next_row (all (suc j))) k)

  -- any other row is as it was
  pub with_row-other : (i : ℕ) (v : List ℕ) → i * w + w ≤ length v → (k : ℕ) → (k ≡ i → ⊥) → row w (with_row w v i r) k ≡ row w v k
  with_row-other i v h = with_row-each (λ (j : ℕ) (x : List ℕ). (j ≡ i → ⊥) → x ≡ row w v j) i v h (λ n. absurd (n refl)) (λ k n. refl)

-- ---- zeros

pub zeros-at : (m k : ℕ) → get_or (zeros m) k 0 ≡ 0
zeros-at zero k = refl
zeros-at (suc m) zero = refl
zeros-at (suc m) (suc k) = zeros-at m k

pub zeros-row : (m w i k : ℕ) → k < w → get_or (row w (zeros m) i) k 0 ≡ 0
zeros-row m w i k h = row_at w i k (zeros m) h ∙ zeros-at m (i * w + k)

-- ---- writing

-- a bit that is shifted to its place
pub one_shl : (p : ℕ) → p < 64 → (1 * 2 ^ p) % 2 ^ 64 ≡ 2 ^ p
one_shl p h = shl_exact 1 p 64 (lit< tt) (omega arith) ∙ one-mul (2 ^ p)

-- a list that is written whole, from its first place on
pub sets-whole : (l vs : List ℕ) → length l ≡ length vs → sets l 0 vs ≡ vs
sets-whole l vs h = rw (sets-eq vs l 0 (omega arith), drop_of_length-le l {i = 0 + length vs} (omega arith)) (append-nil vs)
