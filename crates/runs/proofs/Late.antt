-- Demand 1, "A late one keeps exactly the changes listed for it", for a block that comes to the table: what LOOPBACK leaves, by its number. Each is a row of
-- `specs/Kept.antt` of `synchronizer`. A proposal's certificates were taken before (`after`), and stay; 3 and 27 keep these alone (`proposal-takes` of
-- `handlers`). Assumes nothing.
--     settled-rows                                        what a block leaves at the table is a row
--     by-table                                            a number that no vote has is the table's
--     late-waits, late-full, late-absent, late_below      2, 28, 30 and 31
use Prim.Native.Nat.{ℕ}
use mathlib.Core.Bool.{Bool, true, false, cond, true≢false}
use mathlib.Core.List.{List}
use mathlib.Core.Logic.{◌⊎◌, inl, inr}
use mathlib.Core.Path.{◌≡◌, refl, sym, ◌∙◌, ap}
use native.Mathlib.Omega.{arith}
use lib.Dec.{eqb}
use Rattle.certificates.specs.Signers.{member}
use Rattle.certificates.specs.Error.{wait_parent, table_full, ancestor_absent, round_not_below}
use Rattle.trace.specs.declared.events.Block.{Block}
use Rattle.synchronizer.specs.declared.table.Slot.{Slot}
use Rattle.synchronizer.specs.declared.settle.Arrival.{Arrival}
use Rattle.synchronizer.specs.Settle.{Settlement}
use Rattle.synchronizer.specs.Kept.{waiting, no_place, no_b0, stopped_by, Keeps}
use Rattle.synchronizer.proofs.KeptLaws.{settled-keeps}
use Rattle.moves.specs.State.{State}
use Rattle.moves.specs.Outcome.{Outcome, done, after}
use Rattle.handlers.specs.Votes.{voting}
use Rattle.handlers.proofs.VoteTheorems.{Votes, voting-votes}
use Rattle.replica.specs.Blocks.{arrival_for, settled_for, settled_step, after_settled, processed, processed_table}

-- what a block leaves at the table is a row
pub settled-rows : (t : List Slot) (b : Block) (s : State) → Keeps t (arrival_for b s.core.last_committed_round 0) (settled_for s t b)
unfolding settled_for
settled-rows t b s = settled-keeps t (arrival_for b s.core.last_committed_round 0)

module _ (m : List ℕ) (own : ℕ) (t : List Slot) (b : Block) (s : State) where
  abbrev w : Arrival
  w = arrival_for b s.core.last_committed_round 0

  abbrev outcome : Outcome
  outcome = processed m own t b s

  -- a number that no vote has is the table's
  pub by-table : (n : ℕ) → (Votes n → ⊥) → outcome.answer ≡ n → ((settled_for s t b).answer ≡ n) × (outcome ≡ done n (settled_step s (settled_for s t b)))
  unfolding processed after_settled
  by-table n never e = cases (eqb (settled_for s t b).answer 0) e
    where
      cases : (u : Bool) → (cond u (after (settled_step s (settled_for s t b)) (voting m own b)) (done (settled_for s t b).answer (settled_step s (settled_for s t b)))).answer ≡ n
          → ((settled_for s t b).answer ≡ n) × (cond u (after (settled_step s (settled_for s t b)) (voting m own b)) (done (settled_for s t b).answer (settled_step s (settled_for s t b))) ≡ done n (settled_step s (settled_for s t b)))
      cases true e = absurd (never (rw (← e) (voting-votes m own b (settled_step s (settled_for s t b)).state)))
      cases false e = (e, ap (λ (k : ℕ). done k (settled_step s (settled_for s t b))) e)

  -- what the number n goes with, row by row
  module _ {G : Type 0} (n : ℕ) (a : (settled_for s t b).answer ≡ n) where
    at_row : (p : Settlement) → (p.answer ≡ n → settled_for s t b ≡ p → G) → settled_for s t b ≡ p → G
    at_row p f e = f (ap (λ (q : Settlement). q.answer) (sym e) ∙ a) e

    by_row : (wait_parent ≡ n → settled_for s t b ≡ waiting t w → G) → (table_full ≡ n → settled_for s t b ≡ no_place t w → G) → (ancestor_absent ≡ n → settled_for s t b ≡ no_b0 t w → G)
        → (ancestor_absent ≡ n → settled_for s t b ≡ stopped_by ancestor_absent t w → G) → (round_not_below ≡ n → settled_for s t b ≡ stopped_by round_not_below t w → G) → (0 ≡ n → G)
        → Keeps t w (settled_for s t b) → G
    by_row f g h i j k (inl p) = at_row (waiting t w) f p
    by_row f g h i j k (inr (inl p)) = at_row (no_place t w) g p
    by_row f g h i j k (inr (inr (inl p))) = at_row (no_b0 t w) h p
    by_row f g h i j k (inr (inr (inr (inl p)))) = at_row (stopped_by ancestor_absent t w) i p
    by_row f g h i j k (inr (inr (inr (inr (inl p))))) = at_row (stopped_by round_not_below t w) j p
    by_row f g h i j k (inr (inr (inr (inr (inr p))))) = k (sym p.1 ∙ a)

  -- the outcome of a row: the state is as it was
  abbrev Left : ℕ → Settlement → Type 0
  Left n p = (outcome ≡ done n (record { state = s; outs = p.outs })) × (processed_table t b s ≡ p.table)

  left_by_lem : (n : ℕ) (p : Settlement) → settled_step s p ≡ record { state = s; outs = p.outs } → outcome ≡ done n (settled_step s (settled_for s t b)) → settled_for s t b ≡ p → Left n p
  unfolding processed_table
  left_by_lem n p same o e = (rw e at o ∙ ap (done n) same, ap (λ (q : Settlement). q.table) e)

  -- 2: SYNC, and nothing else
  pub late-waits : outcome.answer ≡ wait_parent → Left wait_parent (waiting t w)
  unfolding member
  late-waits e =
      let k = by-table wait_parent (λ h. true≢false (sym h)) e in
      by_row wait_parent k.0 (λ z p. left_by_lem wait_parent (waiting t w) refl k.1 p) (λ z p. absurd (omega (arith, z))) (λ z p. absurd (omega (arith, z)))
      (λ z p. absurd (omega (arith, z))) (λ z p. absurd (omega (arith, z))) (λ z. absurd (omega (arith, z))) (settled-rows t b s)

  -- 28: nothing, and the block is not stored
  pub late-full : outcome.answer ≡ table_full → Left table_full (no_place t w)
  unfolding member
  late-full e =
      let k = by-table table_full (λ h. true≢false (sym h)) e in
      by_row table_full k.0 (λ z p. absurd (omega (arith, z))) (λ z p. left_by_lem table_full (no_place t w) refl k.1 p) (λ z p. absurd (omega (arith, z)))
      (λ z p. absurd (omega (arith, z))) (λ z p. absurd (omega (arith, z))) (λ z. absurd (omega (arith, z))) (settled-rows t b s)

  -- 30: nothing, or in the walk the block is stored, and nothing is committed
  pub late-absent : outcome.answer ≡ ancestor_absent → Left ancestor_absent (no_b0 t w) ⊎ Left ancestor_absent (stopped_by ancestor_absent t w)
  unfolding member
  late-absent e =
      let k = by-table ancestor_absent (λ h. true≢false (sym h)) e in
      by_row ancestor_absent k.0 (λ z p. absurd (omega (arith, z))) (λ z p. absurd (omega (arith, z))) (λ z p. inl (left_by_lem ancestor_absent (no_b0 t w) refl k.1 p))
      (λ z p. inr (left_by_lem ancestor_absent (stopped_by ancestor_absent t w) refl k.1 p)) (λ z p. absurd (omega (arith, z))) (λ z. absurd (omega (arith, z))) (settled-rows t b s)

  -- 31: the block is stored, and nothing is committed
  pub late_below : outcome.answer ≡ round_not_below → Left round_not_below (stopped_by round_not_below t w)
  unfolding member
  late_below e =
      let k = by-table round_not_below (λ h. true≢false (sym h)) e in
      by_row round_not_below k.0 (λ z p. absurd (omega (arith, z))) (λ z p. absurd (omega (arith, z))) (λ z p. absurd (omega (arith, z)))
      (λ z p. absurd (omega (arith, z))) (λ z p. left_by_lem round_not_below (stopped_by round_not_below t w) refl k.1 p) (λ z. absurd (omega (arith, z))) (settled-rows t b s)
