-- The numbers of a trace by its answers, and what holds at the head of `run`'s loop: where it begins, after an answer and at its two ends.
--     numbers-none, used-none       where the front gets no answer there are none
--     numbers-some, used-some       a record that is answered, and then the rest
--     Going                         the invariant; start, in-trace, answered, stopped, filled: its laws
-- Assumes nothing.
use mathlib.Core.Path.{◌≡◌, refl, ap, ◌∙◌}
use mathlib.Core.List.{List, [], ◌∷◌, ◌++◌, map, append_assoc, append-nil, map-append}
use Prim.Native.Nat.{ℕ, zero, suc, ◌+◌, ◌-◌, ◌/◌, ◌≤◌, ◌<◌}
use native.Mathlib.Omega.{arith}
use lib.ListN.{length, drop, take, length-drop}
use lib.Seq.{drop-drop}
use Rattle.trace.proofs.Parts.{all_after}
use Rattle.outputs.specs.Put.{Put, Wrote}
use Rattle.outputs.specs.Records.{answer, enc, answer_size}
use Rattle.outputs.proofs.Wrote.{wrote_none, wrote_one, wrote_then}
use Rattle.std.specs.Prelude.{Option, Some, None}
use Rattle.forms.specs.declared.Answered.{Answered}
use Rattle.forms.specs.Numbers.{answer_of}
use Rattle.forms.specs.Run.{numbers_of, used_of, room_in, RanIs}
use Rattle.forms.proofs.Turns.{answer-within}

module _ (s : List ℕ) {f : Option Answered} (p : f ≡ answer_of s) where
  pub numbers-none : (n : ℕ) → f ≡ None → numbers_of n s ≡ []
  unfolding numbers_of
  numbers-none zero q = refl
  numbers-none (suc n) q = rw (← p, q)

  pub used-none : (n : ℕ) → f ≡ None → ◌≡◌ {A = ℕ} (used_of n s) 0
  unfolding used_of
  used-none zero q = refl
  used-none (suc n) q = let h = used-none n q in rw (← p, q) (omega arith)

  pub numbers-some : (n : ℕ) {a : Answered} → f ≡ Some a → numbers_of (suc n) s ≡ a.number ∷ numbers_of n (drop a.end s)
  unfolding numbers_of
  numbers-some n q = rw (← p, q)

  pub used-some : (n : ℕ) {a : Answered} → f ≡ Some a → used_of (suc n) s ≡ a.end + used_of n (drop a.end s)
  unfolding used_of
  used-some n q = rw (← p, q)

-- t is what is left of the trace after `used` bytes; the numbers of the records in these bytes are written, and there is room for `left` more
pub record Going (trace before after t : List ℕ) (used at : ℕ) : Type 0 where
  pub numbers : List ℕ
  pub left : ℕ
  pub rest : t ≡ drop used trace
  pub within : used ≤ length trace
  pub room : left ≡ (length before - at) / answer_size
  pub fits : at ≤ length before
  pub same : length after ≡ length before
  pub wrote : Wrote (length before) (map answer numbers) before 0 after at
  pub all : numbers_of (room_in before) trace ≡ numbers ++ numbers_of left t
  pub taken : used_of (room_in before) trace ≡ used + used_of left t

pub start : (trace out : List ℕ) → Going trace out out trace 0 0
start trace out =
    record {
      numbers = [];
      left = room_in out;
      rest = refl;
      within = omega arith;
      room = let z : length out - 0 ≡ length out = omega arith in rw z;
      fits = omega arith;
      same = refl;
      wrote = wrote_none (length out) out 0;
      all = refl;
      taken = omega arith;
    }

module _ {trace before after t : List ℕ} {used at : ℕ} (g : Going trace before after t used at) where
  -- the record to be answered lies in the trace
  pub in-trace : {f : Option Answered} {a : Answered} → f ≡ answer_of t → f ≡ Some a → (2 ≤ a.end) × (used + a.end ≤ length trace)
  in-trace p q =
      let b = answer-within t p q in
      let n : length t ≡ length trace - used = ap length g.rest ∙ length-drop used trace in
      omega arith

  -- an answer
  pub answered : {f : Option Answered} {a : Answered} {next : ℕ} {later : List ℕ} → f ≡ answer_of t → f ≡ Some a → answer_size ≤ length after - at
      → Put after at answer_size (enc (answer a.number)) later next → length later ≡ length after
      → Going trace before later (take (length t - a.end) (drop a.end t)) (used + a.end) next
  answered {f} {a} {next} p q r put l =
      let b = in-trace p q in
      let fewer : ℕ = (length before - next) / answer_size in
      let one_less : g.left ≡ suc fewer = omega (arith, g.room, g.same, put.place) in
      let more : used_of g.left t ≡ a.end + used_of fewer (drop a.end t) = rw one_less (used-some t p fewer q) in
      let w = wrote_then g.wrote (wrote_one (answer a.number) put) in
      record {
        numbers = g.numbers ++ a.number ∷ [];
        left = fewer;
        rest = rw (all_after t a.end, g.rest, drop-drop);
        within = b.1;
        room = refl;
        fits = omega (arith, g.same, g.fits, put.place);
        same = l ∙ g.same;
        wrote =
            record {
              place = rw (map-append answer g.numbers (a.number ∷ [])) w.place;
              stored = rw (map-append answer g.numbers (a.number ∷ [])) w.stored;
              room = omega (arith, g.same, g.fits, put.place);
            };
        all = rw (all_after t a.end, append_assoc, ← numbers-some t p fewer q, ← one_less) g.all;
        taken = rw (all_after t a.end) (omega (arith, g.taken));
      }

  -- the two ends
  ended : numbers_of g.left t ≡ [] → ◌≡◌ {A = ℕ} (used_of g.left t) 0 → RanIs trace before after (record { used = used; written = at })
  ended n u = record { wrote = rw (g.all, n, append-nil) g.wrote; taken = omega (arith, g.taken) }

  pub stopped : {f : Option Answered} → f ≡ answer_of t → f ≡ None → RanIs trace before after (record { used = used; written = at })
  stopped p q = ended (numbers-none t p g.left q) (used-none t p g.left q)

  pub filled : length after - at < answer_size → RanIs trace before after (record { used = used; written = at })
  unfolding numbers_of used_of
  filled h = let z : g.left ≡ 0 = omega (arith, g.room, g.same) in ended (rw z) (rw z)

pub ruleset run_ways = (answer-within, start, answered)
