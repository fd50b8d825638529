-- The laws of `Wrote`: what lists of records leave in a buffer. Assumes nothing.
--     wrote_none, wrote_one, wrote-put-to    nothing, or one record, was written
--     wrote_then                             THE LAW: some records, and then others
--     wrote-before, Behind                   records that are stored from the last to the first, as a law and as the invariant of a loop
--     wrote-more                             a bound on the room may be larger
--     wrote-length, wrote-front, wrote-back  the buffer's length, and what lies before and behind the records, are as they were
--     wrote_count, wrote-start               from the start of the buffer: the bytes, and past them what was there
--     length-each                            how long a list of records of one length each is
use mathlib.Core.Path.{◌≡◌, refl, sym, ap, ◌∙◌}
use mathlib.Core.List.{List, [], ◌∷◌, ◌++◌, map, append_assoc, append-nil}
use Prim.Native.Nat.{ℕ, ◌+◌, ◌*◌, ◌≤◌}
use native.Mathlib.Nat.{zero-add, mul-zero, mul-suc}
use native.Mathlib.Omega.{arith}
use lib.ListN.{length, take, drop, length-append}
use lib.Seq.{sets, sets-eq, length-sets}
use Rattle.outputs.specs.Put.{Put, PutTo, Wrote}
use Rattle.outputs.specs.Records.{Rec, enc, enc_all}
use Rattle.outputs.proofs.Writes.{then, nothing, sets_behind, take-sets, drop-sets}

-- ---- lists of records

pub all_append : (rs ss : List Rec) → enc_all (rs ++ ss) ≡ enc_all rs ++ enc_all ss
unfolding enc_all
all_append [] ss = refl
all_append (r ∷ rs) ss = rw (all_append rs ss, append_assoc)

pub all_none : enc_all [] ≡ []
unfolding enc_all
all_none = refl

pub all_one : (r : Rec) → enc_all (r ∷ []) ≡ enc r
unfolding enc_all
all_one r = append-nil (enc r)

-- ---- what was written

pub put-wrote : {k n at next : ℕ} {outs : List Rec} {before after : List ℕ} → Put before at n (enc_all outs) after next → n ≤ k → Wrote k outs before at after next
put-wrote p h = record { place = omega (arith, p.place, p.size); stored = p.stored; room = omega (arith, p.place) }

pub wrote-put : {k at next : ℕ} {outs : List Rec} {before after : List ℕ} → Wrote k outs before at after next → Put before at (length (enc_all outs)) (enc_all outs) after next
wrote-put w = record { place = w.place; size = refl; stored = w.stored }

pub wrote_none : (k : ℕ) (out : List ℕ) (at : ℕ) → Wrote k [] out at out at
unfolding enc_all
wrote_none k out at = put-wrote (nothing out at) (omega arith)

pub wrote_one : {k at next : ℕ} (r : Rec) {before after : List ℕ} → Put before at k (enc r) after next → Wrote k (r ∷ []) before at after next
wrote_one {k} r p = put-wrote {n = k} (rw (all_one r) p) (omega arith)

pub wrote-put-to : {k at next : ℕ} (r : Rec) {before after : List ℕ} → PutTo k before at (enc r) after next → Wrote k (r ∷ []) before at after next
wrote-put-to r p = record { place = rw (all_one r) p.put.place; stored = rw (all_one r) p.put.stored; room = p.most }

pub wrote_then : {k l at mid next : ℕ} {xs ys : List Rec} {a b c : List ℕ} → Wrote k xs a at b mid → Wrote l ys b mid c next → Wrote (k + l) (xs ++ ys) a at c next
wrote_then {xs = xs} {ys = ys} p q =
    let w = then (wrote-put p) (wrote-put q) in
    record {
      place = rw (all_append xs ys, length-append) w.place;
      stored = rw (all_append xs ys) w.stored;
      room = omega (arith, p.room, q.room);
    }

-- ---- from the last to the first

-- a record that is stored behind the place of others, and then those
pub store-behind : (xs : List Rec) (r : Rec) (at : ℕ) {before mid : List ℕ} {here l next : ℕ} → here ≡ at + length (enc_all xs) → Put before here l (enc r) mid next
    → sets mid at (enc_all xs) ≡ sets before at (enc_all (xs ++ r ∷ []))
store-behind xs r at {before} e p = rw (p.stored, e, all_append xs (r ∷ []), all_one r) (sets_behind (enc_all xs) (enc r) before at)

pub wrote-before : {k l at here next : ℕ} {xs : List Rec} (r : Rec) {before mid after : List ℕ} → Put before here l (enc r) mid next
    → Wrote k xs mid at after here → Wrote (k + l) (xs ++ r ∷ []) before at after next
wrote-before {at = at} {xs = xs} r p q =
    record {
      place = rw (all_append xs (r ∷ []), all_one r, length-append) (omega (arith, p.place, p.size, q.place));
      stored = q.stored ∙ store-behind xs r at q.place p;
      room = omega (arith, p.place, q.room);
    }

-- the same as the invariant of a loop: the records that are left, stored from `at` on, make all of them
pub record Behind (before : List ℕ) (at : ℕ) (all left : List Rec) (out : List ℕ) : Type 0 where
  pub stored : sets out at (enc_all left) ≡ sets before at (enc_all all)

pub behind-all : (before : List ℕ) (at : ℕ) (all : List Rec) → Behind before at all all before
behind-all before at all = record { stored = refl }

pub behind-less : {before out out' : List ℕ} {at here l next : ℕ} {all : List Rec} (xs : List Rec) (r : Rec) → Behind before at all (xs ++ r ∷ []) out
    → here ≡ at + length (enc_all xs) → Put out here l (enc r) out' next → Behind before at all xs out'
behind-less {at = at} xs r b e p = record { stored = store-behind xs r at e p ∙ b.stored }

pub behind-none : (k : ℕ) {before out : List ℕ} {at : ℕ} {all : List Rec} → Behind before at all [] out → length (enc_all all) ≤ k
    → Wrote k all before at out (at + length (enc_all all))
unfolding enc_all
behind-none k b h = record { place = refl; stored = b.stored; room = omega arith }

-- ---- a larger bound

pub wrote-more : {k l at next : ℕ} {outs : List Rec} {before after : List ℕ} → Wrote k outs before at after next → k ≤ l → Wrote l outs before at after next
wrote-more w h = record { place = w.place; stored = w.stored; room = omega (arith, w.room) }

-- ---- what was not

pub wrote-length : {k at next : ℕ} {outs : List Rec} {before after : List ℕ} → Wrote k outs before at after next → length after ≡ length before
wrote-length {at = at} {outs = outs} {before = before} w = ap length w.stored ∙ length-sets before at (enc_all outs)

pub wrote-front : {k at next : ℕ} {outs : List Rec} {before after : List ℕ} → Wrote k outs before at after next → take at after ≡ take at before
wrote-front {at = at} {outs = outs} {before = before} w = ap (take at) w.stored ∙ take-sets (enc_all outs) before at at (omega arith)

pub wrote-back : {k at next : ℕ} {outs : List Rec} {before after : List ℕ} → Wrote k outs before at after next → drop next after ≡ drop next before
wrote-back {at = at} {next = next} {outs = outs} {before = before} w =
    ap (drop next) w.stored ∙ drop-sets (enc_all outs) before at next (omega (arith, w.place))

-- ---- from the start

pub wrote_count : {k next : ℕ} {outs : List Rec} {before after : List ℕ} → Wrote k outs before 0 after next → next ≡ length (enc_all outs)
wrote_count {outs = outs} w = w.place ∙ zero-add (length (enc_all outs))

pub wrote-start : {k next : ℕ} {outs : List Rec} {before after : List ℕ} → Wrote k outs before 0 after next → k ≤ length before
    → after ≡ enc_all outs ++ drop (length (enc_all outs)) before
wrote-start {outs = outs} {before = before} w h =
    w.stored ∙ sets-eq (enc_all outs) before 0 (omega (arith, w.room, w.place)) ∙ rw zero-add

-- ---- how long

-- records of one length each
pub length-each : {A : Type 0} (f : A → Rec) (n : ℕ) → ((x : A) → length (enc (f x)) ≡ n) → (xs : List A) → length (enc_all (map f xs)) ≡ n * length xs
unfolding enc_all
length-each f n h [] = sym (mul-zero n)
length-each f n h (x ∷ xs) = rw (length-append, h x, length-each f n h xs, mul-suc) (omega arith)
