-- What is kept of a block at the table: every settlement is a row of `specs/Kept.antt`. No contract cites this file. Assumes nothing.
--     stops-.., commit-rows      a walk that is refused is refused by 30 or 31, and commits nothing
--     settled-keeps              every settlement is one of the rows
use Prim.Native.Nat.{ℕ, zero, suc, ◌+◌}
use mathlib.Core.Bool.{Bool, true, false, cond, true≢false}
use mathlib.Core.List.{List, [], ◌∷◌, ◌++◌, append-nil}
use mathlib.Core.Logic.{◌⊎◌, inl, inr}
use mathlib.Core.Path.{◌≡◌, refl, ◌∙◌, ap}
use lib.Dec.{eqb, ltb}
use lib.ListN.{length}
use Rattle.certificates.specs.Error.{table_full, ancestor_absent, round_not_below}
use Rattle.outputs.specs.Records.{Rec}
use Rattle.std.specs.Prelude.{Option, Some, None}
use Rattle.synchronizer.specs.declared.table.Slot.{Slot}
use Rattle.synchronizer.specs.declared.settle.Arrival.{Arrival}
use Rattle.synchronizer.specs.Table.{place_of, stored, parent_of, slot_in, b0_of, b1_of, ancestors_by, ancestors_of, found_number}
use Rattle.synchronizer.specs.Walk.{Walk, refused as stopped, delivers, and_newer, on_parent, walk_from, walk_of, Commit, committed_by, commit_of, no_commit}
use Rattle.synchronizer.specs.Settle.{Settlement, answered, is_two_chain, clean_of, commit_if, linked_of, processed_of, wait_of, asking, brought, settled_of}
use Rattle.synchronizer.specs.Kept.{linked, Keeps}
use Rattle.synchronizer.proofs.SettleLaws.{processed-is, settled-block}

-- ---- a walk that is refused commits nothing

abbrev Stops : ℕ → Type 0
Stops n = (n ≡ ancestor_absent) ⊎ (n ≡ round_not_below)

unfoldable StopsBy : Walk → Type 0
StopsBy (stopped n) = Stops n
StopsBy (delivers bs) = Unit {0}

stops-newer : (w : Walk) (b : Slot) → StopsBy w → StopsBy (and_newer w b)
unfolding StopsBy
stops-newer (stopped n) b h = h
stops-newer (delivers bs) b h = tt

stops-parent : (b : Slot) (last : ℕ) (p : Option Slot) (w : Walk) → StopsBy w → StopsBy (on_parent b last p w)
unfolding on_parent StopsBy
stops-parent b last None w h = inl refl
stops-parent b last (Some p) w h = cases (ltb p.round.0 b.round.0) (ltb last p.round.0)
  where
    cases : (y z : Bool) → StopsBy (cond y (cond z (and_newer w b) (delivers (b ∷ []))) (stopped round_not_below))
    cases true true = stops-newer w b h
    cases true false = tt
    cases false z = inr refl

stops-walk : (n : ℕ) (t : List Slot) (b : Slot) (last : ℕ) → StopsBy (walk_from n t b last)
unfolding walk_from StopsBy
stops-walk zero t b last = inr refl
stops-walk (suc n) t b last = cases (ltb (last + 1) b.round.0) (stops-walk n t (slot_in (parent_of t b)) last)
  where
    cases : (u : Bool) → StopsBy (walk_from n t (slot_in (parent_of t b)) last)
        → StopsBy (cond u (on_parent b last (parent_of t b) (walk_from n t (slot_in (parent_of t b)) last)) (delivers (b ∷ [])))
    cases true h = stops-parent b last (parent_of t b) (walk_from n t (slot_in (parent_of t b)) last) h
    cases false h = tt

abbrev nothing_by : ℕ → ℕ → Commit
nothing_by last n = record { answer = n; last = last; blocks = [] }

abbrev Commits : ℕ → Commit → Type 0
Commits last c = (c.answer ≡ 0) ⊎ ((c ≡ nothing_by last ancestor_absent) ⊎ (c ≡ nothing_by last round_not_below))

committed-rows : (b : Slot) (last : ℕ) (w : Walk) → StopsBy w → Commits last (committed_by b last w)
unfolding StopsBy
committed-rows b last (stopped n) (inl e) = inr (inl (ap (nothing_by last) e))
committed-rows b last (stopped n) (inr e) = inr (inr (ap (nothing_by last) e))
committed-rows b last (delivers bs) h = inl refl

commit-rows : (t : List Slot) (b0 b1 : Slot) (last : ℕ) → Commits last (commit_if t b0 b1 last)
unfolding commit_if commit_of walk_of
commit-rows t b0 b1 last = cases (is_two_chain b0 b1) (ltb last b0.round.0)
  where
    cases : (u v : Bool) → Commits last (cond u (cond v (committed_by b0 last (walk_from (suc (length t)) t b0 last)) (no_commit last)) (no_commit last))
    cases true true = committed-rows b0 last (walk_from (suc (length t)) t b0 last) (stops-walk (suc (length t)) t b0 last)
    cases true false = inl refl
    cases false v = inl refl

-- ---- every settlement is one of the rows

module _ (t : List Slot) (w : Arrival) where
  abbrev b0 : Slot
  b0 = b0_of t w.block

  abbrev b1 : Slot
  b1 = b1_of t w.block

  abbrev clean : List Rec
  clean = clean_of b0 b1 w.block

  asks_nothing : (p : Settlement) → p.answer ≡ 0 → asking w p ≡ p
  unfolding wait_of
  asks_nothing p e = ap (answered p.answer p.table p.last) (rw e (append-nil p.outs))

  linked-rows : Commits w.last.0 (commit_if (stored t w.block) b0 b1 w.last.0) → Keeps t w (asking w (linked t w))
  unfolding linked_of wait_of
  linked-rows (inl e) = inr (inr (inr (inr (inr (asks_nothing (linked t w) e, e)))))
  linked-rows (inr (inl e)) =
      inr (inr (inr (inl (rw e (ap (answered ancestor_absent (stored t w.block) w.last.0) (append-nil (clean ++ []) ∙ append-nil clean))))))
  linked-rows (inr (inr e)) =
      inr (inr (inr (inr (inl (rw e (ap (answered round_not_below (stored t w.block) w.last.0) (append-nil (clean ++ []) ∙ append-nil clean)))))))

  options-rows : (p1 p0 : Option Slot) → eqb (found_number (ancestors_by p1 p0)) 0 ≡ false → Keeps t w (asking w (answered (found_number (ancestors_by p1 p0)) t w.last.0 []))
  unfolding wait_of
  options-rows None p0 e = inl refl
  options-rows (Some _) None e = inr (inr (inl refl))
  options-rows (Some _) (Some _) e = absurd (true≢false e)

  ancestors-rows : eqb (found_number (ancestors_of t w.block)) 0 ≡ false → Keeps t w (asking w (answered (found_number (ancestors_of t w.block)) t w.last.0 []))
  unfolding ancestors_of
  ancestors-rows e = options-rows (parent_of t w.block) (parent_of t (b1_of t w.block)) e

  processed-rows : Keeps t w (asking w (processed_of t w))
  unfolding wait_of
  processed-rows = rw (processed-is t w) (cases (eqb (found_number (ancestors_of t w.block)) 0) (ltb (place_of t w.block) (length t)) refl)
    where
      cases : (u v : Bool) → eqb (found_number (ancestors_of t w.block)) 0 ≡ u
          → Keeps t w (asking w (cond u (cond v (linked t w) (answered table_full t w.last.0 [])) (answered (found_number (ancestors_of t w.block)) t w.last.0 [])))
      cases true true e = linked-rows (commit-rows (stored t w.block) b0 b1 w.last.0)
      cases true false e = inr (inl refl)
      cases false v e = ancestors-rows e

  pub settled-keeps : Keeps t w (settled_of t (brought w))
  settled-keeps = rw (settled-block t w) processed-rows
