-- Laws of a place in the trace bytes.
--     small-fits, record-fits     the place behind a front lies in the trace
--     next_fits       the place behind a front is a place of the trace
--     next-rest       the bytes behind a front are the unread rest of the trace
--     front-part      a place of the first have bytes
-- Assumes nothing.
use mathlib.Core.Path.{◌≡◌, refl, sym, ◌∙◌}
use mathlib.Core.List.{List}
use Prim.Native.Nat.{ℕ, ◌+◌, ◌-◌, ◌≤◌}
use native.Mathlib.Nat.{le_refl}
use native.Mathlib.Omega.{arith}
use lib.ListN.{length, take, drop, length-drop, drop_of_length-le}
use lib.Seq.{drop-drop}
use Rattle.trace.specs.Record.{rest_of}
use Rattle.trace.specs.declared.record.Front.{Front}
use Rattle.trace.specs.declared.record.Front.TheVariants.{End, Cut, Small, Record}
use Rattle.trace.proofs.Parts.{drop-take}
use Rattle.trace.proofs.FrontLaws.{front-bounds}
use Rattle.reader.specs.Place.{front_at, behind, next_at, front_in}

-- ---- what the code needs

module _ (s : List ℕ) (at : ℕ) {f : Front} (e : f ≡ front_at s at) where
  module _ {end : ℕ} where
    pub small-fits : f ≡ Small end → at + end ≤ length s
    small-fits q =
        let l : length (drop at s) ≡ length s - at = length-drop at s in
        let b = front-bounds (drop at s) (Small end) (sym q ∙ e) in
        omega (arith, b, l)

    pub record-fits : {kind : ℕ} → f ≡ Record kind end → at + end ≤ length s
    record-fits {kind} q =
        let l : length (drop at s) ≡ length s - at = length-drop at s in
        let b = front-bounds (drop at s) (Record kind end) (sym q ∙ e) in
        omega (arith, b, l)

pub front-part : (s : List ℕ) (at have : ℕ) {t : List ℕ} {f : Front} → t ≡ take have s → f ≡ front_at t at → f ≡ front_in s at have
front-part s at have p e = rw (p, drop-take at have s) at e

pub ruleset next_ways = (small-fits, record-fits)

pub ruleset part_ways = (front-part)

-- ---- what callers need

by_front_lem : (s : List ℕ) (at : ℕ) (f : Front) → f ≡ front_at s at → behind f at (length s) ≤ length s
by_front_lem s at End e = le_refl (length s)
by_front_lem s at Cut e = le_refl (length s)
by_front_lem s at (Small end) e = small-fits s at e refl
by_front_lem s at (Record kind end) e = record-fits s at e refl

pub next_fits : (s : List ℕ) (at : ℕ) → next_at s at ≤ length s
next_fits s at = by_front_lem s at (front_at s at) refl

rest-by : (s : List ℕ) (at : ℕ) (f : Front) → drop (behind f at (length s)) s ≡ rest_of f (drop at s)
rest-by s at End = drop_of_length-le s (le_refl (length s))
rest-by s at Cut = drop_of_length-le s (le_refl (length s))
rest-by s at (Small end) = sym (drop-drop end at s)
rest-by s at (Record kind end) = sym (drop-drop end at s)

-- 01: "Taking one record off hands back the unread rest of the caller's buffer."
pub next-rest : (s : List ℕ) (at : ℕ) → drop (next_at s at) s ≡ rest_of (front_at s at) (drop at s)
next-rest s at = rest-by s at (front_at s at)
