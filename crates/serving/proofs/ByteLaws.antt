-- Laws of what is unread, where a read put bytes behind it, and of what is delivered: what `hold` puts behind what waits or alone, and what `compare` found. Assumes nothing.
use mathlib.Core.Path.{◌≡◌, refl, sym, ◌∙◌, ap}
use Prim.Native.Nat.{ℕ, zero, suc, ◌+◌, ◌-◌, ◌≤◌, ◌<◌}
use mathlib.Core.Bool.{Bool, true, false, cond}
use mathlib.Core.List.{List, [], ◌∷◌, ◌++◌}
use native.Mathlib.Omega.{arith}
use borrow.Author.Tests.{ltb-false, le-leb, lt-leb}
use lib.Dec.{eqb, ltb}
use lib.ListN.{length, take, drop, length-append, length-take}
use lib.Seq.{length-take-le, take-nil, take-length, take-take, take_at, paste}
use Rattle.buffers.specs.Buffers.{Alike}
use Rattle.serving.specs.declared.state.Serving.{Serving}
use Rattle.serving.specs.declared.state.Mode.{Mode}
use Rattle.serving.specs.declared.state.Mode.TheVariants.{Write, File, Part}
use Rattle.serving.specs.declared.state.Why.{Why}
use Rattle.serving.specs.declared.state.Why.TheVariants.{Ended, NotRead, Differs}
use Rattle.serving.specs.State.{rank, readable_of, read_by, end_of, gained_by, brought_by, judged_by, ended_by, met_by, held_by, further_by}
use Rattle.std.specs.Prelude.{Option, Some, None, unwrap_or}
use Rattle.serving.specs.Bytes.{unread, Reads, Kept, Refills, Flushes, Delivers}
use Rattle.serving.proofs.StateLaws.{ended-at-least}

-- ---- the mode

reads_same : (m : Mode) (n : ℕ) → Reads m n m n
reads_same Write n = refl
reads_same File n = refl
reads_same (Part left due) n = (left, refl, refl)

reads-more : (m : Mode) (room n at have : ℕ) → at ≤ have → n ≤ readable_of m room → Reads m (have - at) (read_by m n) (have + n - at)
reads-more Write room n at have h k = refl
reads-more File room n at have h k = refl
reads-more (Part left due) room n at have h k = (left - n, refl, omega arith)

-- ---- what is unread

take_own : (k : ℕ) (l : List ℕ) → take (length (take k l)) l ≡ take k l
take_own zero l = refl
take_own (suc k) [] = refl
take_own (suc k) (x ∷ l) = ap (λ (r : List ℕ). x ∷ r) (take_own k l)

-- what is unread lies in the front that was kept
cut : (a h : ℕ) (l : List ℕ) → take (h - a) (drop a l) ≡ drop a (take h l)
cut zero h l = let e : h - 0 ≡ h = omega arith in rw e
cut (suc a) zero l = let e : 0 - suc a ≡ 0 = omega arith in rw e
cut (suc a) (suc h) [] = take-nil (suc h - suc a)
cut (suc a) (suc h) (x ∷ l) = let e : suc h - suc a ≡ h - a = omega arith in rw e (cut a h l)

module _ (s : Serving) (before after : List ℕ) (same : take s.run.have after ≡ take s.run.have before) where
  still : unread s.run after ≡ unread s.run before
  still = cut s.run.at s.run.have after ∙ rw same (sym (cut s.run.at s.run.have before))

  kept-still : Kept s.run before s.run after
  kept-still = record { seat = refl; core = refl; front = rw still (take-length (unread s.run before)) }

  kept-gained : (n : ℕ) → Kept s.run before (gained_by s n).run after
  kept-gained n =
      let few : length (unread s.run after) ≤ s.run.have + n - s.run.at = omega (arith, length-take (s.run.have - s.run.at) (drop s.run.at after)) in
      record { seat = refl; core = refl; front = rw (← still) (take-take _ (s.run.have + n - s.run.at) (drop s.run.at after) few ∙ take_own (s.run.have - s.run.at) (drop s.run.at after)) }

  refills-still : (w : Why) → Refills s before (ended_by s w) after
  refills-still w = record { turns = omega arith; mode = reads_same s.mode _; kept = kept-still }

  -- read behind what is there
  pub refills-brought : (g : Option ℕ) (most room : ℕ) {r : Serving} → s.run.at ≤ s.run.have → most ≡ readable_of s.mode room → s.run.have + unwrap_or g 0 ≤ s.run.have + most
      → r ≡ brought_by s g → Refills s before r after
  refills-brought None most room h a b e = rw e (refills-still NotRead)
  refills-brought (Some n) most room h a b e = rw e (by-test (eqb n 0))
    where
      by-test : (t : Bool) → Refills s before (cond t (ended_by s (end_of s.mode)) (gained_by s n)) after
      by-test true = refills-still (end_of s.mode)
      by-test false = record { turns = omega arith; mode = reads-more s.mode room n _ _ h (omega (arith, a)); kept = kept-gained n }

-- ---- what is delivered
module _ (s : Serving) (out before : List ℕ) (n : ℕ) where
  -- a run that ended by a fault delivers nothing
  delivers-none : {r : Serving} {after : List ℕ} → r.turns ≤ s.turns → r.run ≡ s.run → rank Ended < rank r.why → Delivers s out before n r after
  delivers-none h e l = record { turns = h; run = e; waits = λ _ m. absurd (omega arith); expected = λ _ m. absurd (omega arith) }

  pub delivers-behind : {u r : Serving} {after : List ℕ} → s.held ≤ length before → n ≤ length before - s.held → n ≤ length out → s.mode ≡ Write
      → after ≡ paste before s.held out n → u ≡ held_by s (s.held + n) → r ≡ further_by u n → Delivers s out before n r after
  delivers-behind h k l m p e f =
      let fit : s.held + n ≤ length before = omega arith in
      let long : length (take s.held before ++ take n out) ≡ s.held + n = rw (length-append, length-take-le s.held before h, length-take-le n out l) in
      rw (f, e, p) record {
        turns = omega arith;
        run = refl;
        waits = λ _ _. rw (le-leb _ _ fit) (take_at _ _ _ long);
        expected = λ d _. absurd (d m);
      }

  module _ {u : Serving} (done : Flushes s u) where
    pub delivers-alone : {v r : Serving} {after : List ℕ} → s.held ≤ length before → length before - s.held < n → n ≤ length out → s.mode ≡ Write
        → after ≡ paste before 0 out n → v ≡ held_by u n → r ≡ further_by v n → Delivers s out before n r after
    delivers-alone h k l m p e f =
        let over : length before < s.held + n = omega arith in
        rw (f, e, p) record {
          turns = done.turns;
          run = done.run;
          waits = λ _ _. rw (lt-leb _ _ over) (take_at (take n out) _ _ (length-take-le n out l));
          expected = λ d _. absurd (d m);
        }

  -- ---- what is expected
  pub delivers-judged : (most got same : ℕ) {r : Serving} {after : List ℕ} → (s.mode ≡ Write → ⊥) → most ≤ n → got ≤ most → Alike out after got same → r ≡ judged_by s got same n → Delivers s out before n r after
  delivers-judged most got same {r} {after} m a b p e = rw e (by-test (ltb same n) refl)
    where
      u : Serving
      u = further_by (met_by s got) same

      by-test : (t : Bool) → t ≡ ltb same n → Delivers s out before n (cond t (ended_by u Differs) u) after
      by-test true f = delivers-none (omega arith) refl (omega (arith, ended-at-least u Differs))
      by-test false f =
          let l : n ≤ same = ltb-false _ _ (sym f) in
          let all : same ≡ n = omega (arith, p.most) in
          record { turns = omega arith; run = refl; waits = λ d _. absurd (m d); expected = λ _ _. sym (rw all at p.same) }
