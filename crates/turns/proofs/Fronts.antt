-- What stands at the front, by cases: a law for each way out of `ahead_of` and `cut_met`, and that the record that the replica is asked for is
-- the one at the front.
--     cut_long, cut_more                              what is met where the front is cut
--     ahead_end, ahead_cut, ahead_one                 what is met, and where the record lies
--     one_within                                      a record ends in what was read
--     taken_by f, ahead-to                            the bytes that are taken, and that the next record starts behind them
--     ahead-record-is                                 the record that the replica is asked for
-- Assumes nothing.
use Prim.Native.Nat.{ℕ, ◌+◌, ◌-◌, ◌≤◌, ◌<◌}
use mathlib.Core.List.{List, []}
use mathlib.Core.Logic.{◌⊎◌, inl, inr}
use mathlib.Core.Path.{◌≡◌, refl, sym, ◌∙◌}
use native.Mathlib.Omega.{arith}
use borrow.Author.Tests.{lt-ltb, le-ltb}
use lib.ListN.{length, drop, length-take}
use lib.Seq.{take-take, drop-drop}
use Rattle.certificates.specs.Num.{num_at}
use Rattle.trace.specs.Part.{between}
use Rattle.trace.specs.Record.{record_max, split_of, record_of}
use Rattle.trace.specs.declared.record.Front.{Front}
use Rattle.trace.specs.declared.record.Front.TheVariants.{End, Cut, Small, Record}
use Rattle.trace.proofs.Parts.{drop-take}
use Rattle.trace.proofs.FrontLaws.{Bounds, front-bounds}
use Rattle.turns.specs.declared.turn.Met.{Met}
use Rattle.turns.specs.declared.turn.Met.TheVariants.{More, TooLong}
use Rattle.turns.specs.Code.{cut_met, none_at, one_at, ahead_by, ahead_of}

-- a record of either kind, which ends at `end`
abbrev pub One : Front → ℕ → Type 0
One f end = (f ≡ Small end) ⊎ ((kind : ℕ) × (f ≡ Record kind end))

-- ---- ways out

module _ (s : List ℕ) {n : ℕ} (e : n ≡ num_at 2 s 0) where
  pub cut_long : record_max < n → TooLong ≡ cut_met s
  cut_long h = rw (← e, lt-ltb _ _ h)

  pub cut_more : n ≤ record_max → More ≡ cut_met s
  cut_more h = rw (← e, le-ltb _ _ h)

module _ (s : List ℕ) {f : Front} (p : f ≡ split_of s) (at : ℕ) where
  pub ahead_end : f ≡ End → none_at More at ≡ ahead_of at s
  unfolding ahead_of
  ahead_end q = rw (← p, q)

  pub ahead_cut : {part : List ℕ} {m : Met} → part ≡ s → f ≡ Cut → m ≡ cut_met part → none_at m at ≡ ahead_of at s
  unfolding ahead_of
  ahead_cut e q h = rw (← p, q, h, e)

  pub ahead_one : {end : ℕ} → One f end → one_at at end ≡ ahead_of at s
  unfolding ahead_of
  ahead_one (inl q) = rw (← p, q)
  ahead_one (inr (kind, q)) = rw (← p, q)

-- ---- where a record ends

part_length : (at have : ℕ) (t : List ℕ) → length (between at have t) ≤ have - at
part_length at have t = rw length-take (omega arith)

module _ (at have : ℕ) (t : List ℕ) {f : Front} (p : f ≡ split_of (between at have t)) where
  bounds : {g : Front} → f ≡ g → Bounds g (length (between at have t))
  bounds {g} q = front-bounds (between at have t) g (sym q ∙ p)

  pub one_within : {end : ℕ} → One f end → (2 ≤ end) × (at + end ≤ have)
  one_within (inl q) = let b = bounds q in omega (arith, part_length at have t)
  one_within (inr (kind, q)) = let b = bounds q in omega (arith, part_length at have t)

-- ---- the record that the replica is asked for

-- the bytes that are taken
abbrev pub taken_by : Front → ℕ
taken_by End = 0
taken_by Cut = 0
taken_by (Small end) = end
taken_by (Record kind end) = end

pub ahead-to : (f : Front) (at : ℕ) (s : List ℕ) → (ahead_by f at s).to ≡ at + taken_by f
ahead-to End at s = omega arith
ahead-to Cut at s = omega arith
ahead-to (Small end) at s = refl
ahead-to (Record kind end) at s = refl

module _ (at have : ℕ) (t : List ℕ) where
  none-there : between at at t ≡ []
  none-there = let z : at - at ≡ 0 = omega arith in rw z

  one-there : (end : ℕ) → 2 ≤ end → at + end ≤ have → between (at + 2) (at + end) t ≡ between 2 end (between at have t)
  one-there end h k =
      let z : (at + end) - (at + 2) ≡ end - 2 = omega arith in
      let m : end - 2 ≤ (have - at) - 2 = omega arith in
      rw (z, drop-take 2 (have - at) (drop at t), drop-drop, take-take (end - 2) ((have - at) - 2) (drop (at + 2) t))

  pub ahead-record-is : (f : Front) → f ≡ split_of (between at have t)
      → between (ahead_by f at (between at have t)).from (ahead_by f at (between at have t)).to t ≡ record_of f (between at have t)
  ahead-record-is End p = none-there
  ahead-record-is Cut p = none-there
  ahead-record-is (Small end) p = let b = one_within at have t p (inl refl) in one-there end b.0 b.1
  ahead-record-is (Record kind end) p = let b = one_within at have t p (inr (kind, refl)) in one-there end b.0 b.1
