-- A trace that is read in pieces: the records that are whole in the part s that was read are those of the whole trace, however it goes on.
--     answer-append      more bytes after a record that is answered change nothing
--     numbers-append     the answers to a part, and then those to what is left of it and the bytes after it, are the answers to the whole
-- Assumes nothing.
use mathlib.Core.Path.{◌≡◌, refl, ap}
use mathlib.Core.List.{List, ◌∷◌, ◌++◌}
use Prim.Native.Nat.{ℕ, zero, suc, ◌-◌}
use native.Mathlib.Omega.{arith}
use lib.ListN.{length, drop}
use lib.Seq.{drop-append-le, drop-drop}
use Rattle.trace.specs.Record.{split_of}
use Rattle.trace.specs.declared.record.Front.{Front}
use Rattle.trace.specs.declared.record.Front.TheVariants.{End, Cut, Small, Record}
use Rattle.trace.proofs.FrontLaws.{front-append, record-append}
use Rattle.std.specs.Prelude.{Option, Some, None}
use Rattle.forms.specs.declared.Answered.{Answered}
use Rattle.forms.specs.Numbers.{by_front, answer_of}
use Rattle.forms.specs.Run.{numbers_of, used_of}
use Rattle.forms.proofs.Turns.{answer-within}
use Rattle.forms.proofs.Runs.{numbers-none, used-none, numbers-some, used-some}

module _ (t : List ℕ) where
  by_front_lem : (s : List ℕ) (f : Front) {a : Answered} → f ≡ split_of s → Some a ≡ by_front f s → Some a ≡ answer_of (s ++ t)
  unfolding answer_of
  by_front_lem s End p q = absurd (cc)
  by_front_lem s Cut p q = absurd (cc)
  by_front_lem s (Small e) p q = rw (← front-append s t (Small e) tt p) q
  by_front_lem s (Record kind e) p q =
      rw (← front-append s t (Record kind e) tt p, record-append s t (Record kind e) tt p) q

  pub answer-append : (s : List ℕ) {a : Answered} → Some a ≡ answer_of s → Some a ≡ answer_of (s ++ t)
  unfolding answer_of
  answer-append s p = by_front_lem s (split_of s) refl p

  abbrev pub InPieces : ℕ → List ℕ → Type 0
  InPieces n s = numbers_of n (s ++ t) ≡ numbers_of n s ++ numbers_of (n - length (numbers_of n s)) (drop (used_of n s) (s ++ t))

  by_answer : (n : ℕ) (s : List ℕ) (f : Option Answered) → f ≡ answer_of s → ((r : List ℕ) → InPieces n r) → InPieces (suc n) s
  by_answer n s None p more =
      let z : suc n - 0 ≡ suc n = omega arith in
      rw (numbers-none s p (suc n) refl, used-none s p (suc n) refl, z)
  by_answer n s (Some a) p more =
      let b = answer-within s p refl in
      let numbers : List ℕ = numbers_of n (drop a.end s) in
      let z : suc n - suc (length numbers) ≡ n - length numbers = omega arith in
      rw (numbers-some s p n refl, used-some s p n refl, numbers-some (s ++ t) (answer-append s p) n refl, z, ← drop-drop, drop-append-le a.end s t b.1)
      (ap (λ (l : List ℕ). a.number ∷ l) (more (drop a.end s)))

  pub numbers-append : (n : ℕ) (s : List ℕ) → InPieces n s
  unfolding numbers_of used_of
  numbers-append zero s = refl
  numbers-append (suc n) s = by_answer n s (answer_of s) refl (numbers-append n)
