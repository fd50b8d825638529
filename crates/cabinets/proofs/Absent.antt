-- 30 and 31 cannot occur where the premises of W11 hold: a host that sees one of them knows that a premise is broken. A grandparent is never absent in any course, since a
-- block is stored only where its parent is and nothing is removed; the walk needs the premises. Assumes nothing.
--     stops-never       of a member that obeys no event is answered 30 or 31
use Prim.Native.Nat.{ℕ, suc, ◌+◌, ◌<◌}
use mathlib.Core.Bool.{Bool, true, false}
use mathlib.Core.List.{List}
use mathlib.Core.Logic.{◌⊎◌, inl, ⊎_elim}
use mathlib.Core.Path.{◌≡◌, refl, sym, ap, ◌∙◌}
use native.Mathlib.Omega.{arith}
use Rattle.certificates.specs.Error.{ancestor_absent, round_not_below}
use Rattle.certificates.specs.Messages.{is_genesis}
use Rattle.std.specs.Prelude.{Option, is_some}
use Rattle.synchronizer.specs.declared.table.Slot.{Slot}
use Rattle.synchronizer.specs.Table.{stored, parent_of, slot_in, b0_of, b1_of, ancestors_of, found_number}
use Rattle.synchronizer.specs.Walk.{refused, delivers, walk_of}
use Rattle.synchronizer.proofs.TableLaws.{ancestors-both}
use Rattle.synchronizer.proofs.Lookups.{Has, parent-has, parent-genesis, Closed, closed-stored, closed-ancestors, stays-found, Line, line, stored-has, Stopped, no-b0, in-walk, Sure, walk-delivers}
use Rattle.replica.specs.Blocks.{slot_for}
use Rattle.runs.specs.Runs.{committed_of}
use Rattle.runs.specs.Courses.{Course}
use Rattle.runs.specs.Passed.{Passed}
use Rattle.runs.specs.Lives.{Party}
use Rattle.runs.specs.Signed.{Members, Sits}
use Rattle.runs.proofs.Quorums.{positive}
use Rattle.runs.proofs.Answers.{stopped}
use Rattle.runs.proofs.CourseLives.{world_at, event_at, result_at, block_in, total, started-at, closed_at}
use Rattle.runs.proofs.Parties.{party_of, sitting, trusted}
use Rattle.cabinets.specs.Contents.{content_of}
use Rattle.cabinets.specs.Rules.{Blocks, below, Backed, Rules, child-of}
use Rattle.cabinets.specs.Ledgers.{Cabinets}
use Rattle.cabinets.proofs.Chain.{sound}
use Rattle.cabinets.proofs.Events as events
use Rattle.cabinets.proofs.Events.{Trace, Offered}
use Rattle.cabinets.proofs.CourseKeeps.{Loops, trace_of}
use Rattle.cabinets.proofs.Digests.{blocks_of, given}

module _ (M : Members) (C : Cabinets M) where
  abbrev P : Party
  P = party_of M

  abbrev B : Blocks
  B = blocks_of M

  abbrev T : ℕ → Trace
  T q = trace_of (M.course q)

  pub rules : Rules P B
  rules = events.keeps-rules P B T (given M C)

  -- what a slot that was found says is so of its digest
  abbrev Known : Slot → Type 0
  Known s = events.Known P B T (given M C) s

  -- a certified block is of a lower round than its child, and certified if its child is
  module _ (s c : Slot) (k : Known s) (l : Known c) (b : Backed P B s.digest) (g : is_genesis s.parent s.parent_round.0 ≡ false) (e : c.digest ≡ s.parent) where
    on : (B.parent s.digest ≡ child-of c.digest) × (below P B s.digest ≡ B.round c.digest)
    on = events.child P B T (given M C) s c k g e

    parent-lower : c.round.0 < s.round.0
    parent-lower = omega (arith, on.1, (sound P B rules s.digest b).lower, k.at, l.at)

    parent-backed : Backed P B c.digest
    parent-backed = (sound P B rules s.digest b).backed c.digest on.0

  module _ (p : ℕ) (o : Sits M p) (i : ℕ) (came : Passed (world_at (M.course p) i) (event_at (M.course p) i) ⊎ Loops (M.course p) i) where
    abbrev r : Course
    r = M.course p

    abbrev t : List Slot
    t = (world_at r i).table

    abbrev b : Slot
    b = slot_for (block_in r i)

    abbrev last : ℕ
    last = committed_of (world_at r i)

    offer : (j : ℕ) × Offered (trace_of r) j (content_of (block_in r i))
    offer =
        events.offered P B T (given M C) p (sitting M p o) (suc i)
        (content_of (block_in r i)) (came, refl)

    known-here : (s : Slot) → Has t s → Known s
    known-here s h = events.known P B T (given M C) p (sitting M p o) (suc i) s (inl h)

    known-block : Known b
    known-block =
        events.known-offered P B T (given M C) p (sitting M p o) offer.0
        (content_of (block_in r i)) offer.1

    known-stored : (s : Slot) → Has (stored t b) s → Known s
    known-stored s h = ⊎_elim (λ (e : s ≡ b). rw e known-block) (λ k. known-here s k) (stored-has t b s h)

    module _ (found : found_number (ancestors_of t b) ≡ 0) (newer : last < (b0_of t b).round.0) (consecutive : (b0_of t b).round.0 + 1 ≡ (b1_of t b).round.0) where
      closed : Closed (stored t b)
      closed = closed-stored t b (closed_at r i) refl (ancestors-both t b found).0

      -- what holds of a slot that is walked
      record Walks (s : Slot) : Type 0 where
        knows : Known s
        certified : Backed P B s.digest
        parent : is_some (parent_of (stored t b) s) ≡ true

      ancestors : Line t b
      ancestors = line t b found (omega arith) (omega arith)

      first : Walks (b0_of t b)
      first =
          let a = ancestors in
          let b1 = b1_of t b in
          let b0 = b0_of t b in
          let k1 = known-here b1 a.has1 in
          let k0 = known-here b0 a.has0 in
          let c1 : Backed P B b1.digest =
          events.qc-backed P B T (given M C) b.parent b.parent_round.0 b1.digest
          known-block.true-qc
          (events.parent-other P B T (given M C) b.parent b.parent_round.0 a.other1
          ∙ ap child-of (sym a.on1)) in
          record {
            knows = k0;
            certified = parent-backed b1 b0 k1 k0 c1 a.other0 a.on0;
            parent = stays-found t b b0 refl ((closed_at r i).parent b0 a.has0);
          }

      sure : (s : Slot) → Walks s → Sure (stored t b) last Walks s
      sure s k = cases (is_genesis s.parent s.parent_round.0) refl
        where
          cases : (g : Bool) → is_genesis s.parent s.parent_round.0 ≡ g → Sure (stored t b) last Walks s
          cases true g =
              let z : (slot_in (parent_of (stored t b) s)).round.0 ≡ 0 = ap (λ (x : Option Slot). (slot_in x).round.0) (parent-genesis (stored t b) s g) in
              record {
                found = k.parent;
                lower = omega (arith, k.knows.at, positive P (trusted M) s.digest (B.round s.digest) k.certified);
                next = λ h. absurd (omega arith);
              }
          cases false g =
              let c = slot_in (parent_of (stored t b) s) in
              let h = parent-has (stored t b) s g k.parent in
              let l = known-stored c h.0 in
              record {
                found = k.parent;
                lower = parent-lower s c k.knows l k.certified g h.1;
                next = λ u. record { knows = l; certified = parent-backed s c k.knows l k.certified g h.1; parent = closed.parent c h.0 };
              }

      walk_ends : (n : ℕ) → walk_of (stored t b) (b0_of t b) last ≡ refused n → ⊥
      walk_ends n e =
          let d = walk-delivers (stored t b) last Walks sure (b0_of t b) first in
          let x : refused n ≡ delivers d.0 = sym e ∙ d.1 in
          let z : ◌≡◌ {A = ℕ} 0 1 = cc in
          omega arith

    never-stopped : (n : ℕ) → Stopped t b last n → ⊥
    never-stopped n (no-b0 z e) = closed-ancestors t b (closed_at r i) e
    never-stopped n (in-walk f g h e) = walk_ends f h g n e

  -- Of a member that obeys no event is answered 30 or 31.
  pub stops-never : (p : ℕ) → Sits M p → (i n : ℕ) → (n ≡ ancestor_absent) ⊎ (n ≡ round_not_below) → (result_at (M.course p) i).answer ≡ n → ⊥
  stops-never p o i n is a =
      let k = stopped (world_at (M.course p) i) (event_at (M.course p) i) (total (M.course p)) (started-at (M.course p) i) n is a in
      never-stopped p o i k.brought n k.by
