-- The laws of `digits`, of runs of stores, and of `Put`. Assumes nothing.
--     le_digits, one-digit       the bytes of a number, as `to_le_bytes` has them; of a byte
--     length_digits              how many they are
--     sets-append                a run of stores, and then one behind it
--     sets_behind                the same, the run behind stored first
--     take-sets, drop-sets       what lies before and behind a run is as it was
--     nothing                    nothing was written
--     then                       THE LAW: two writes in a row are one of both
--     joins                      the same as `search` applies it
--     part-put                   bytes that are copied to a part
use mathlib.Core.Path.{◌≡◌, refl, sym, ap, ◌∙◌}
use mathlib.Core.List.{List, [], ◌∷◌, ◌++◌, append_assoc}
use Prim.Native.Nat.{ℕ, zero, suc, ◌+◌, ◌-◌, ◌/◌, ◌%◌, ◌^◌, ◌≤◌, ◌<◌}
use native.Mathlib.Nat.{suc-add, add-zero, add-suc, div-one, pow-suc, div-div-eq-div-mul, mod-eq_of_lt}
use native.Mathlib.Omega.{arith}
use lib.ListN.{length, set, take, drop, length-append, length-take, length-drop}
use lib.Seq.{sets, sets-eq, drop-drop, set_comm, take-set-le, drop-set-lt}
use borrow.Rule.Slice.PartMut.{put_mid}
use Rattle.std.specs.Int.{bytes_low_first}
use Rattle.outputs.specs.Fields.{digits}
use Rattle.outputs.specs.Put.{Put}

-- ---- numbers

-- from byte i on
low_first : (w i x : ℕ) → bytes_low_first i w x ≡ digits w (x / 256 ^ i)
unfolding digits
low_first zero i x = refl
low_first (suc w) zero x = let one : x / 256 ^ 0 ≡ x = div-one x in rw one (ap (λ (l : List ℕ). x % 256 ∷ l) (low_first w 1 x))
low_first (suc w) (suc i) x =
    let next : x / 256 ^ suc i / 256 ≡ x / 256 ^ suc (suc i) = div-div-eq-div-mul x (256 ^ suc i) 256 ∙ ap (λ (n : ℕ). x / n) (sym (pow-suc 256 (suc i))) in
    rw next (ap (λ (l : List ℕ). x / 256 ^ suc i % 256 ∷ l) (low_first w (suc (suc i)) x))

pub le_digits : (w x : ℕ) → bytes_low_first 0 w x ≡ digits w x
le_digits w x = low_first w 0 x ∙ ap (λ (n : ℕ). digits w n) (div-one x)

pub one-digit : (x : ℕ) → x < 256 → x ∷ [] ≡ digits 1 x
unfolding digits
one-digit x h = rw (mod-eq_of_lt h)

pub length_digits : (w x : ℕ) → length (digits w x) ≡ w
unfolding digits
length_digits zero x = refl
length_digits (suc w) x = ap suc (length_digits w (x / 256))

-- ---- writes

-- two runs of stores, one after the other
pub sets-append : (xs ys l : List ℕ) (i : ℕ) → sets (sets l i xs) (i + length xs) ys ≡ sets l i (xs ++ ys)
sets-append [] ys l i = rw add-zero
sets-append (x ∷ xs) ys l i = rw (add-suc, ← suc-add) (sets-append xs ys (set l i x) (suc i))

-- a store in front of a run
set_before : (ys l : List ℕ) (i j x : ℕ) → i < j → set (sets l j ys) i x ≡ sets (set l i x) j ys
set_before [] l i j x h = refl
set_before (y ∷ ys) l i j x h = rw (set_comm l i j x y (λ e. absurd (omega arith))) (set_before ys (set l j y) i (suc j) x (omega arith))

-- the run behind may be stored first
pub sets_behind : (xs ys l : List ℕ) (i : ℕ) → sets (sets l (i + length xs) ys) i xs ≡ sets l i (xs ++ ys)
sets_behind [] ys l i = rw add-zero
sets_behind (x ∷ xs) ys l i =
    rw (add-suc, ← suc-add, set_before ys l i (suc i + length xs) x (omega arith)) (sets_behind xs ys (set l i x) (suc i))

-- what lies before and behind a run is as it was
pub take-sets : (xs l : List ℕ) (i n : ℕ) → n ≤ i → take n (sets l i xs) ≡ take n l
take-sets [] l i n h = refl
take-sets (x ∷ xs) l i n h = take-sets xs (set l i x) (suc i) n (omega arith) ∙ take-set-le n l i x h

pub drop-sets : (xs l : List ℕ) (i n : ℕ) → i + length xs ≤ n → drop n (sets l i xs) ≡ drop n l
drop-sets [] l i n h = refl
drop-sets (x ∷ xs) l i n h = drop-sets xs (set l i x) (suc i) n (omega arith) ∙ drop-set-lt n l i x (omega arith)

-- nothing
pub nothing : (l : List ℕ) (at : ℕ) → Put l at 0 [] l at
nothing l at = record { place = sym (add-zero at); size = refl; stored = refl }

-- THE LAW: two writes in a row are one of both
pub then : {a b c xs ys : List ℕ} {at m n k l : ℕ} → Put a at m xs b k → Put b k n ys c l → Put a at (m + n) (xs ++ ys) c l
then {a} {xs = xs} {ys = ys} {at = at} p q =
    record {
      place = omega arith;
      size = length-append xs ys ∙ omega arith;
      stored = q.stored ∙ rw (p.stored, p.place, ← p.size) (sets-append xs ys a at);
    }

-- the law in the form that `search` applies: it finds the two writes among what is known, and the sum of the sizes by computing
pub joins : {a b c xs ys : List ℕ} {at m n k l s : ℕ} → Put a at m xs b k → Put b k n ys c l → m + n ≡ s → Put a at s (xs ++ ys) c l
joins p q e = rw (← e) (then p q)

-- bytes that are copied to a part
pub part-put : (l : List ℕ) (at n : ℕ) {bytes part : List ℕ} → at + n ≤ length l → length part ≡ length (take (at + n - at) (drop at l)) → part ≡ bytes
    → Put l at n bytes (put_mid at (at + n - at) l part) (at + n)
part-put l at n {bytes} h k e =
    let size : at + n - at ≡ n = omega arith in
    let long : length bytes ≡ n = rw (← e, k, size, length-take, length-drop) (omega arith) in
    record {
      place = refl;
      size = long;
      stored = rw (e, size, sets-eq bytes l at (omega arith), drop-drop, long) (sym (append_assoc (take at l) bytes (drop (at + n) l)));
    }
