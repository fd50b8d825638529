-- The output records of a whole trace: the number of events that `ledger_of` allows is enough.
--     ledger-is                                   THE LAW: the records of a trace by its front, the rest as a trace of its own
--     ledger-end, ledger-cut, ledger-event        the same by cases
-- Assumes nothing.
use Prim.Native.Nat.{ℕ, zero, suc, ◌≤◌}
use mathlib.Core.List.{List, [], ◌∷◌, ◌++◌}
use mathlib.Core.Path.{◌≡◌, refl, sym, ap, ◌∙◌}
use native.Mathlib.Omega.{arith}
use lib.ListN.{length, drop, length-drop}
use Rattle.certificates.specs.Error.{bad_record}
use Rattle.trace.specs.Record.{split_of, rest_of}
use Rattle.trace.specs.declared.record.Front.{Front}
use Rattle.trace.specs.declared.record.Front.TheVariants.{End, Cut, Small, Record}
use Rattle.trace.proofs.FrontLaws.{Whole, front-bounds}
use Rattle.trace.proofs.Fronts.{at-end}
use Rattle.outputs.specs.Records.{Rec, answer}
use Rattle.replica.specs.Step.{World, Result}
use Rattle.turns.specs.Ledger.{event_at, by_front, ledger_in, ledger_of}

-- the rest of a trace whose front is taken is shorter
pub rest-within : (s : List ℕ) (n : ℕ) (f : Front) → f ≡ split_of s → Whole f → length s ≤ suc n → length (rest_of f s) ≤ n
rest-within s n End p h k = absurd h
rest-within s n Cut p h k = absurd h
rest-within s n (Small end) p h k = let b = front-bounds s _ p in rw (length-drop end s) (omega arith)
rest-within s n (Record kind end) p h k = let b = front-bounds s _ p in rw (length-drop end s) (omega arith)

module _ (room : ℕ) where
  ledger-suc : (n : ℕ) (w : World) (s : List ℕ) {f : Front} → f ≡ split_of s
      → ledger_in (suc n) w room s ≡ by_front f (event_at w room s) (ledger_in n (event_at w room s).world room (rest_of f s))
  unfolding ledger_in
  ledger-suc n w s p = rw (← p)

  -- more events than there are bytes change nothing
  abbrev Same : ℕ → ℕ → World → List ℕ → Type 0
  Same n m w s = ledger_in n w room s ≡ ledger_in m w room s

  same_by : (n m : ℕ) (x : Result) (s : List ℕ) (f : Front) → f ≡ split_of s → length s ≤ suc n → length s ≤ suc m
      → ((w : World) (r : List ℕ) → length r ≤ n → length r ≤ m → Same n m w r)
      → by_front f x (ledger_in n x.world room (rest_of f s)) ≡ by_front f x (ledger_in m x.world room (rest_of f s))
  same_by n m x s End p h k more = refl
  same_by n m x s Cut p h k more = refl
  same_by n m x s (Small end) p h k more =
      ap (λ (rs : List Rec). x.outs ++ answer x.answer ∷ rs) (more x.world (drop end s) (rest-within s n _ p tt h) (rest-within s m _ p tt k))
  same_by n m x s (Record kind end) p h k more =
      ap (λ (rs : List Rec). x.outs ++ answer x.answer ∷ rs) (more x.world (drop end s) (rest-within s n _ p tt h) (rest-within s m _ p tt k))

  none : (m : ℕ) (w : World) (s : List ℕ) → length s ≤ 0 → [] ≡ ledger_in m w room s
  unfolding ledger_in
  none zero w s h = refl
  none (suc m) w s h = sym (ledger-suc m w s {f = End} (at-end s (omega arith)))

  enough : (n m : ℕ) (w : World) (s : List ℕ) → length s ≤ n → length s ≤ m → Same n m w s
  unfolding ledger_in
  enough zero m w s h k = none m w s h
  enough (suc n) zero w s h k = sym (none (suc n) w s k)
  enough (suc n) (suc m) w s h k =
      ledger-suc n w s refl ∙ same_by n m (event_at w room s) s (split_of s) refl h k (enough n m) ∙ sym (ledger-suc m w s refl)

  -- the records of the rest, whatever number of events is allowed
  of-rest : (x : Result) (s : List ℕ) (f : Front) → f ≡ split_of s
      → by_front f x (ledger_in (length s) x.world room (rest_of f s)) ≡ by_front f x (ledger_of x.world room (rest_of f s))
  unfolding ledger_of
  of-rest x s End p = refl
  of-rest x s Cut p = refl
  of-rest x s (Small end) p =
      ap (λ (rs : List Rec). x.outs ++ answer x.answer ∷ rs)
      (enough (length s) (length (drop end s)) x.world (drop end s) (rest-within s (length s) _ p tt (omega arith)) (omega arith))
  of-rest x s (Record kind end) p =
      ap (λ (rs : List Rec). x.outs ++ answer x.answer ∷ rs)
      (enough (length s) (length (drop end s)) x.world (drop end s) (rest-within s (length s) _ p tt (omega arith)) (omega arith))

  module _ (w : World) (s : List ℕ) where
    pub ledger-is : {f : Front} → f ≡ split_of s → ledger_of w room s ≡ by_front f (event_at w room s) (ledger_of (event_at w room s).world room (rest_of f s))
    unfolding ledger_of
    ledger-is {f} p =
        enough (length s) (suc (length s)) w s (omega arith) (omega arith) ∙ ledger-suc (length s) w s p ∙ of-rest (event_at w room s) s f p

    pub ledger-end : End ≡ split_of s → ledger_of w room s ≡ []
    ledger-end p = ledger-is p

    pub ledger-cut : Cut ≡ split_of s → ledger_of w room s ≡ answer bad_record ∷ []
    ledger-cut p = ledger-is p

    pub ledger-event : (f : Front) → f ≡ split_of s → Whole f
        → ledger_of w room s ≡ (event_at w room s).outs ++ answer (event_at w room s).answer ∷ ledger_of (event_at w room s).world room (rest_of f s)
    ledger-event End p h = absurd h
    ledger-event Cut p h = absurd h
    ledger-event (Small end) p h = ledger-is p
    ledger-event (Record kind end) p h = ledger-is p
