-- What a caller needs of `split_of`: where a record ends, what the record handed on is, and that a record whole in the part that was read
-- is the record at the front of the whole trace, however it goes on.
--     front-bounds s         a front that is not the end of the run is 2 bytes or more, and ends in the trace
--     record_is              the record's kind and its length, 2 to the most
--     front-append           more bytes after a whole front change nothing
--     record-append          .. nor the record that it hands on
--     rest-append            .. and they follow the rest
-- Assumes nothing.
use mathlib.Core.Path.{◌≡◌, refl, sym, ◌∙◌}
use mathlib.Core.Bool.{Bool, true, false, cond}
use mathlib.Core.List.{List, ◌++◌}
use Prim.Native.Nat.{ℕ, ◌+◌, ◌-◌, ◌≤◌, ◌<◌}
use native.Mathlib.Omega.{arith}
use lib.ListN.{length, length-append, drop, length-drop}
use lib.Seq.{take-append-le, drop-append-le, length-take-le}
use lib.Dec.{ltb}
use borrow.Author.Tests.{ltb-false, ltb-true}
use Rattle.certificates.specs.Num.{num_at}
use Rattle.trace.specs.Part.{between}
use Rattle.trace.specs.Record.{record_max, split_of, framed, record_of, rest_of}
use Rattle.trace.specs.declared.record.Front.{Front}
use Rattle.trace.specs.declared.record.Front.TheVariants.{End, Cut, Small, Record}
use Rattle.trace.proofs.Parts.{num-append, num-part}
use Rattle.trace.proofs.Fronts.{no_kind, whole}

-- what the tests say of a front whose length field is n and whose kind is k, in a trace of len bytes
record Sized (len n : ℕ) : Type 0 where
  long : 2 ≤ len
  size : n ≤ record_max
  inside : n + 2 ≤ len

record IsSmall (len n end : ℕ) : Type 0 where
  sized : Sized len n
  small : n < 2
  end_is : end ≡ n + 2

record IsWhole (len n k kind end : ℕ) : Type 0 where
  sized : Sized len n
  kinded : 2 ≤ n
  kind-is : kind ≡ k
  end_is : end ≡ n + 2

abbrev Found : Front → (len n k : ℕ) → Type 0
Found End len n k = Unit
Found Cut len n k = Unit
Found (Small end) len n k = IsSmall len n end
Found (Record kind end) len n k = IsWhole len n k kind end

by_tests : (a b c d e : Bool) (k n len : ℕ) → b ≡ ltb len 2 → c ≡ ltb record_max n → d ≡ ltb len (n + 2) → e ≡ ltb n 2
    → Found (cond a End (cond b Cut (cond c Cut (cond d Cut (cond e (Small (n + 2)) (Record k (n + 2))))))) len n k
by_tests true b c d e k n len p q r s = tt
by_tests false true c d e k n len p q r s = tt
by_tests false false true d e k n len p q r s = tt
by_tests false false false true e k n len p q r s = tt
by_tests false false false false true k n len p q r s =
    record {
      sized = record { long = ltb-false _ _ (sym p); size = ltb-false _ _ (sym q); inside = ltb-false _ _ (sym r) };
      small = ltb-true _ _ (sym s);
      end_is = refl;
    }
by_tests false false false false false k n len p q r s =
    record {
      sized = record { long = ltb-false _ _ (sym p); size = ltb-false _ _ (sym q); inside = ltb-false _ _ (sym r) };
      kinded = ltb-false _ _ (sym s);
      kind-is = refl;
      end_is = refl;
    }

found : (s : List ℕ) {f : Front} → f ≡ split_of s → Found f (length s) (num_at 2 s 0) (num_at 2 s 2)
unfolding split_of framed
found s e =
    let n : ℕ = num_at 2 s 0 in
    rw e
    (by_tests (ltb (length s) 1) (ltb (length s) 2) (ltb record_max n) (ltb (length s) (n + 2)) (ltb n 2) (num_at 2 s 2) n (length s) refl refl refl refl)

-- ---- where a front ends

abbrev pub Bounds : Front → ℕ → Type 0
Bounds End n = Unit
Bounds Cut n = Unit
Bounds (Small end) n = (2 ≤ end) × (end ≤ n)
Bounds (Record kind end) n = (2 ≤ end) × (end ≤ n)

pub front-bounds : (s : List ℕ) (f : Front) → f ≡ split_of s → Bounds f (length s)
front-bounds s End e = tt
front-bounds s Cut e = tt
front-bounds s (Small end) e = let f = found s e in (omega arith, omega arith)
front-bounds s (Record kind end) e = let f = found s e in (omega arith, omega arith)

-- ---- the record at the front: the kind, and 2 to the most bytes

pub record IsRecord (r : List ℕ) (kind : ℕ) : Type 0 where
  pub kind-is : num_at 2 r 0 ≡ kind
  pub least : 2 ≤ length r
  pub most : length r ≤ record_max

length-between : (a e : ℕ) (s : List ℕ) → e ≤ length s → length (between a e s) ≡ e - a
length-between a e s h = length-take-le (e - a) (drop a s) (rw length-drop (omega arith))

pub record_is : (s : List ℕ) {kind end : ℕ} → Record kind end ≡ split_of s → IsRecord (record_of (Record kind end) s) kind
record_is s {kind} {end} e =
    let f = found s e in
    let l : length (between 2 end s) ≡ end - 2 = length-between 2 end s (omega arith) in
    record {
      kind-is = num-part s 2 (end - 2) 0 2 (omega arith) (omega arith) ∙ sym f.kind-is;
      least = omega arith;
      most = omega arith;
    }

-- ---- more bytes after it

abbrev pub Whole : Front → Type 0
Whole End = ⊥
Whole Cut = ⊥
Whole (Small end) = Unit
Whole (Record kind end) = Unit

module _ (s t : List ℕ) where
  pub front-append : (f : Front) → Whole f → f ≡ split_of s → f ≡ split_of (s ++ t)
  front-append End w e = absurd w
  front-append Cut w e = absurd w
  front-append (Small end) w e =
      let f = found s e in
      let l : length (s ++ t) ≡ length s + length t = length-append s t in
      rw f.end_is (no_kind (s ++ t) (sym (num-append 2 s t 0 (omega arith))) (omega arith) (omega arith) (omega arith) (omega arith))
  front-append (Record kind end) w e =
      let f = found s e in
      let l : length (s ++ t) ≡ length s + length t = length-append s t in
      let q : kind ≡ num_at 2 (s ++ t) 2 = rw (num-append 2 s t 2 (omega arith)) f.kind-is in
      rw f.end_is
      (whole (s ++ t) (sym (num-append 2 s t 0 (omega arith))) (omega arith) (omega arith) (omega arith) (omega arith) q)

  between-append : (a e : ℕ) → a ≤ e → e ≤ length s → between a e (s ++ t) ≡ between a e s
  between-append a e h k =
      let i : a ≤ length s = omega arith in
      let j : e - a ≤ length (drop a s) = rw length-drop (omega arith) in
      rw (drop-append-le a s t i) (take-append-le (e - a) (drop a s) t j)

  pub record-append : (f : Front) → Whole f → f ≡ split_of s → record_of f (s ++ t) ≡ record_of f s
  record-append End w e = absurd w
  record-append Cut w e = absurd w
  record-append (Small end) w e = let b = front-bounds s _ e in between-append 2 end b.0 b.1
  record-append (Record kind end) w e = let b = front-bounds s _ e in between-append 2 end b.0 b.1

  pub rest-append : (f : Front) → Whole f → f ≡ split_of s → rest_of f (s ++ t) ≡ rest_of f s ++ t
  rest-append End w e = absurd w
  rest-append Cut w e = absurd w
  rest-append (Small end) w e = let b = front-bounds s _ e in drop-append-le end s t b.1
  rest-append (Record kind end) w e = let b = front-bounds s _ e in drop-append-le end s t b.1
