-- What a table of blocks holds, what lookups and walks find in it, and that parents stay. No contract cites this file. Assumes nothing.
--     Has t s                  s is a slot of the table t that is in use
--     looked-up                a lookup that finds something finds such a slot, with the digest that was asked for
--     found-has                where such a slot is, a lookup finds something
--     parent-has, parent-genesis     the parent of a block, by its QC
--     stored-has, cleared-has  what is in a table after a store, and after it is cleared
--     Walked Found l s ss      the walk from s down to round l goes over slots that are Found, and delivers ss
--     walked_as                .. over slots that are known, where those that are found are
--     walk-slots               a walk that delivers goes over slots of the table
--     walk-delivers            a walk delivers where every parent is found and is of a lower round
--     Closed t                 every parent of a slot in use is in the table
--     closed-cleared, closed-stored      a cleared table is closed; a store that found its block's parent keeps it closed
--     closed-ancestors         in a closed table no grandparent is absent
--     Line t b, line           b1 and b0 in the table, by the QCs that name them
--     Stopped t b last n, settled-stopped     what a block that is answered 30 or 31 met
use Prim.Native.Nat.{ℕ, zero, suc, ◌+◌, ◌≤◌, ◌<◌}
use mathlib.Core.Bool.{Bool, true, false, cond}
use mathlib.Core.List.{List, [], ◌∷◌, ◌++◌}
use mathlib.Core.Logic.{◌⊎◌, inl, inr, by_cases}
use mathlib.Core.Path.{◌≡◌, refl, sym, ap, ◌∙◌}
use native.Mathlib.Decide.{ℕ_discrete}
use native.Mathlib.Omega.{arith}
use borrow.Author.Tests.{eqb-true, ltb-true, ltb-false, lt-ltb}
use lib.Dec.{eqb, ltb}
use lib.ListN.{length, set, replicate}
use lib.Seq.{get_or-set_same, get_or-set_other}
use Rattle.certificates.specs.declared.numbers.Hash.{Hash}
use Rattle.certificates.specs.Numbers.{same_hash}
use Rattle.certificates.specs.Messages.{is_genesis}
use Rattle.certificates.proofs.NumbersLaws.{hash-same, hash-self, genesis-is}
use Rattle.certificates.specs.Error.{wait_parent, table_full, ancestor_absent, round_not_below}
use Rattle.std.specs.Prelude.{Option, None, Some, is_some}
use Rattle.synchronizer.specs.declared.table.Slot.{Slot}
use Rattle.synchronizer.specs.declared.table.Want.{Want}
use Rattle.synchronizer.specs.declared.table.Want.TheVariants.{Free, Digest}
use Rattle.synchronizer.specs.Table.{blank, slot_at, fits, lowest, place_of, stored, cleared, genesis, parent_of, slot_in, b0_of, b1_of, ancestors_by, ancestors_of, found_number}
use Rattle.synchronizer.specs.declared.settle.Arrival.{Arrival}
use Rattle.synchronizer.specs.Walk.{Walk, refused, delivers, and_newer, on_parent, walk_from, walk_of, committed_by, commit_of, no_commit}
use Rattle.synchronizer.specs.Settle.{answered, is_two_chain, commit_if, linked_of, brought, settled_of}
use Rattle.synchronizer.proofs.TableLaws.{ancestors-both, stored-length, found-at}
use Rattle.synchronizer.proofs.WalkLaws.{walk_step, on-parent-found, on-parent-absent}
use Rattle.synchronizer.proofs.SettleLaws.{processed-is, settled-block}

pub record Has (t : List Slot) (s : Slot) : Type 0 where
  pub place : ℕ
  pub within : place < length t
  pub is : s ≡ slot_at t place
  pub used : s.used ≡ true

never : {A : Type 0} → ◌≡◌ {A = Bool} true false → A
never e = absurd (let z : ◌≡◌ {A = ℕ} 0 1 = cc in omega arith)

-- ---- looking

lowest-fits : (t : List Slot) (w : Want) → lowest t w < length t → fits (slot_at t (lowest t w)) w ≡ true
unfolding lowest
lowest-fits [] w l = absurd (omega arith)
lowest-fits (s ∷ t) w l = cases (fits s w) refl l (λ k. lowest-fits t w k)
  where
    cases : (b : Bool) → fits s w ≡ b → cond b 0 (suc (lowest t w)) < suc (length t) → (lowest t w < length t → fits (slot_at t (lowest t w)) w ≡ true)
        → fits (slot_at (s ∷ t) (cond b 0 (suc (lowest t w)))) w ≡ true
    cases true e l f = e
    cases false e l f = f (omega arith)

-- where a slot fits, the lowest one that fits is found
fits-lowest : (t : List Slot) (w : Want) (i : ℕ) → i < length t → fits (slot_at t i) w ≡ true → lowest t w < length t
unfolding lowest
fits-lowest [] w i l f = absurd (omega arith)
fits-lowest (s ∷ t) w zero l f = rw f (omega arith)
fits-lowest (s ∷ t) w (suc i) l f = cases (fits s w) (fits-lowest t w i (omega arith) f)
  where
    cases : (b : Bool) → lowest t w < length t → cond b 0 (suc (lowest t w)) < suc (length t)
    cases true h = omega arith
    cases false h = omega arith

fits-digest : (s : Slot) (h : Hash) → fits s (Digest h) ≡ true → (s.used ≡ true) × (s.digest ≡ h)
unfolding fits
fits-digest s h e = cases s.used refl e
  where
    cases : (b : Bool) → s.used ≡ b → cond b (same_hash s.digest h) false ≡ true → (s.used ≡ true) × (s.digest ≡ h)
    cases true u f = (u, hash-same s.digest h f)
    cases false u f = never (sym f)

digest-fits : (s : Slot) → s.used ≡ true → fits s (Digest s.digest) ≡ true
unfolding fits
digest-fits s u = rw u (hash-self s.digest)

-- A lookup that finds something finds a slot in use, with the digest that was asked for.
pub looked-up : (t : List Slot) (h : Hash) → lowest t (Digest h) < length t → Has t (slot_at t (lowest t (Digest h))) × ((slot_at t (lowest t (Digest h))).digest ≡ h)
looked-up t h l =
    let f = fits-digest (slot_at t (lowest t (Digest h))) h (lowest-fits t (Digest h) l) in
    (record { place = lowest t (Digest h); within = l; is = refl; used = f.0 }, f.1)

-- And it finds something where a slot in use has that digest.
pub found-has : (t : List Slot) (s : Slot) → Has t s → lowest t (Digest s.digest) < length t
found-has t s h = fits-lowest t (Digest s.digest) h.place h.within (rw (← h.is) (digest-fits s h.used))

-- ---- parents

pub parent-has : (t : List Slot) (b : Slot) → is_genesis b.parent b.parent_round.0 ≡ false → is_some (parent_of t b) ≡ true
    → Has t (slot_in (parent_of t b)) × ((slot_in (parent_of t b)).digest ≡ b.parent)
unfolding parent_of
parent-has t b g =
    rw g
    (λ f. let k = found-at t (lowest t (Digest b.parent)) f in
    rw k.1 (looked-up t b.parent k.0))

pub parent-genesis : (t : List Slot) (b : Slot) → is_genesis b.parent b.parent_round.0 ≡ true → parent_of t b ≡ Some genesis
unfolding parent_of
parent-genesis t b g = rw g

-- the parent is found where a slot in use has the digest that the QC names
found-parent : (t : List Slot) (b : Slot) → is_genesis b.parent b.parent_round.0 ≡ false → (c : Slot) → Has t c → c.digest ≡ b.parent → is_some (parent_of t b) ≡ true
unfolding parent_of
found-parent t b g c h e = rw (g, lt-ltb _ _ (rw e at (found-has t c h)))

-- ---- what is in a table

pub stored-has : (t : List Slot) (b s : Slot) → Has (stored t b) s → (s ≡ b) ⊎ Has t s
unfolding stored
stored-has t b s h =
    let l : h.place < length t = omega (arith, h.within, stored-length t b) in
    by_cases (ℕ_discrete h.place (place_of t b))
    (λ e. inl (h.is ∙ ap (λ (i : ℕ). slot_at (set t (place_of t b) b) i) e ∙ get_or-set_same t (place_of t b) b blank (rw e at l)))
    (λ n. inr (record { place = h.place; within = l; is = h.is ∙ get_or-set_other t (place_of t b) h.place b blank n; used = h.used }))

blank-at : (n i : ℕ) → (slot_at (replicate n blank) i).used ≡ false
blank-at zero i = refl
blank-at (suc n) zero = refl
blank-at (suc n) (suc i) = blank-at n i

pub cleared-has : (t : List Slot) (s : Slot) → Has (cleared t) s → ⊥
unfolding cleared
cleared-has t s h = never (sym h.used ∙ ap (λ (x : Slot). x.used) h.is ∙ blank-at (length t) h.place)

-- ---- a digest that is in a table stays in it

free-unused : (s : Slot) → fits s Free ≡ true → s.used ≡ true → ⊥
unfolding fits
free-unused s f v = never (sym (rw v at f))

-- a block takes the place of a slot that is free, or has its digest
place-takes : (t : List Slot) (b : Slot) (c : Slot) → c ≡ slot_at t (place_of t b) → place_of t b < length t → c.used ≡ true → c.digest ≡ b.digest
unfolding place_of
place-takes t b c e l u = cases (ltb (lowest t (Digest b.digest)) (length t)) refl e l
  where
    cases : (x : Bool) → ltb (lowest t (Digest b.digest)) (length t) ≡ x
        → c ≡ slot_at t (cond x (lowest t (Digest b.digest)) (lowest t Free)) → cond x (lowest t (Digest b.digest)) (lowest t Free) < length t
        → c.digest ≡ b.digest
    cases true f e l = ap (λ (s : Slot). s.digest) e ∙ (looked-up t b.digest l).1
    cases false f e l = absurd (free-unused c (rw e (lowest-fits t Free l)) u)

pub stored-keeps : (t : List Slot) (b c : Slot) → b.used ≡ true → Has t c → (s : Slot) × Has (stored t b) s × (s.digest ≡ c.digest)
unfolding stored
stored-keeps t b c u h =
    let n : length (set t (place_of t b) b) ≡ length t = stored-length t b in
    by_cases (ℕ_discrete h.place (place_of t b))
    (λ e.
    let l : place_of t b < length t = rw e at h.within in
    let i : b ≡ slot_at (set t (place_of t b) b) (place_of t b) = sym (get_or-set_same t (place_of t b) b blank l) in
    (b, record { place = place_of t b; within = rw n l; is = i; used = u }, sym (place-takes t b c (rw e at h.is) l h.used)))
    (λ m. (c, record { place = h.place; within = rw n h.within; is = h.is ∙ sym (get_or-set_other t (place_of t b) h.place b blank m); used = h.used }, refl))

-- ---- closed tables: "a block is stored only where its parent is, and nothing is removed"

pub record Closed (t : List Slot) : Type 0 where
  pub parent : (s : Slot) → Has t s → is_some (parent_of t s) ≡ true

pub closed-cleared : (t : List Slot) → Closed (cleared t)
closed-cleared t = record { parent = λ s h. absurd (cleared-has t s h) }

module _ (t : List Slot) (b : Slot) where
  -- a parent that was found is found after the store
  pub stays-found : (s : Slot) → b.used ≡ true → is_some (parent_of t s) ≡ true → is_some (parent_of (stored t b) s) ≡ true
  stays-found s u f = cases (is_genesis s.parent s.parent_round.0) refl
    where
      cases : (g : Bool) → is_genesis s.parent s.parent_round.0 ≡ g → is_some (parent_of (stored t b) s) ≡ true
      cases true g = ap is_some (parent-genesis (stored t b) s g)
      cases false g =
          let h = parent-has t s g f in
          let k = stored-keeps t b (slot_in (parent_of t s)) u h.0 in
          found-parent (stored t b) s g k.0 k.1 (k.2 ∙ h.1)

  pub closed-stored : Closed t → b.used ≡ true → is_some (parent_of t b) ≡ true → Closed (stored t b)
  closed-stored c u f = record { parent = λ s h. new s (stored-has t b s h) }
    where
      new : (s : Slot) → (s ≡ b) ⊎ Has t s → is_some (parent_of (stored t b) s) ≡ true
      new s (inl e) = rw e (stays-found b u f)
      new s (inr h) = stays-found s u (c.parent s h)

-- b1 is named by the block's QC and b0 by that of b1, and neither is genesis
pub record Line (t : List Slot) (b : Slot) : Type 0 where
  pub other1 : is_genesis b.parent b.parent_round.0 ≡ false
  pub has1 : Has t (b1_of t b)
  pub on1 : (b1_of t b).digest ≡ b.parent
  pub other0 : is_genesis (b1_of t b).parent (b1_of t b).parent_round.0 ≡ false
  pub has0 : Has t (b0_of t b)
  pub on0 : (b0_of t b).digest ≡ (b1_of t b).parent

pub line : (t : List Slot) (b : Slot) → found_number (ancestors_of t b) ≡ 0 → 0 < (b0_of t b).round.0 → 0 < (b1_of t b).round.0 → Line t b
unfolding ancestors_of
line t b e l0 l1 = one (is_genesis b.parent b.parent_round.0) refl
  where
    f : (is_some (parent_of t b) ≡ true) × (is_some (parent_of t (slot_in (parent_of t b))) ≡ true)
    f = ancestors-both t b e

    two : (g : Bool) → is_genesis b.parent b.parent_round.0 ≡ false → is_genesis (slot_in (parent_of t b)).parent (slot_in (parent_of t b)).parent_round.0 ≡ g → Line t b
    two true o g =
        let z : (slot_in (parent_of t (slot_in (parent_of t b)))).round.0 ≡ 0 = ap (λ (p : Option Slot). (slot_in p).round.0) (parent-genesis t (slot_in (parent_of t b)) g) in
        absurd (omega arith)
    two false o g =
        let h1 = parent-has t b o f.0 in
        let h0 = parent-has t (slot_in (parent_of t b)) g f.1 in
        record { other1 = o; has1 = h1.0; on1 = h1.1; other0 = g; has0 = h0.0; on0 = h0.1 }

    one : (g : Bool) → is_genesis b.parent b.parent_round.0 ≡ g → Line t b
    one true g =
        let z : (slot_in (parent_of t b)).round.0 ≡ 0 = ap (λ (p : Option Slot). (slot_in p).round.0) (parent-genesis t b g) in
        absurd (omega arith)
    one false g = two (is_genesis (slot_in (parent_of t b)).parent (slot_in (parent_of t b)).parent_round.0) g refl

absent-found : (p1 p0 : Option Slot) → found_number (ancestors_by p1 p0) ≡ ancestor_absent → (is_some p1 ≡ true) × (is_some p0 ≡ false)
absent-found None p0 e = absurd (omega arith)
absent-found (Some b1) None e = (refl, refl)
absent-found (Some b1) (Some b0) e = absurd (omega arith)

-- In a closed table no grandparent is absent.
pub closed-ancestors : (t : List Slot) (b : Slot) → Closed t → found_number (ancestors_of t b) ≡ ancestor_absent → ⊥
unfolding ancestors_of
closed-ancestors t b c e =
    let f = absent-found (parent_of t b) (parent_of t (b1_of t b)) e in
    cases (is_genesis b.parent b.parent_round.0) refl f.0 f.1
  where
    cases : (g : Bool) → is_genesis b.parent b.parent_round.0 ≡ g → is_some (parent_of t b) ≡ true → is_some (parent_of t (slot_in (parent_of t b))) ≡ false → ⊥
    cases true g f h = never (sym (ap is_some (parent-genesis t genesis genesis-is)) ∙ rw (ap slot_in (parent-genesis t b g)) at h)
    cases false g f h = never (sym (c.parent (slot_in (parent_of t b)) (parent-has t b g f).0) ∙ h)

-- ---- walks

-- The walk from a slot down to the last committed round l, oldest first, over slots that are Found. It ends at a block one round above l, or whose parent is
-- genesis or not above l.
pub data Walked (Found : Slot → Type 0) (l : ℕ) : Slot → List Slot → Type 0 where
  near : {s : Slot} → s.round.0 ≤ suc l → Walked Found l s (s ∷ [])
  bottom : {s : Slot} → is_genesis s.parent s.parent_round.0 ≡ true → Walked Found l s (s ∷ [])
  stop : {s : Slot} (c : Slot) → is_genesis s.parent s.parent_round.0 ≡ false → c.digest ≡ s.parent → Found c → c.round.0 ≤ l → Walked Found l s (s ∷ [])
  more : {s : Slot} {ss : List Slot} (c : Slot) → is_genesis s.parent s.parent_round.0 ≡ false → c.digest ≡ s.parent → Found c → l < c.round.0
      → Walked Found l c ss → Walked Found l s (ss ++ s ∷ [])

pub walked_as : {Found Known : Slot → Type 0} {l : ℕ} {s : Slot} {ss : List Slot} → ((c : Slot) → Found c → Known c) → Walked Found l s ss → Walked Known l s ss
walked_as f (near h) = near h
walked_as f (bottom e) = bottom e
walked_as f (stop c e d k h) = stop c e d (f c k) h
walked_as f (more c e d k h w) = more c e d (f c k) h (walked_as f w)

module _ (t : List Slot) (last : ℕ) where
  newer-is : (w : Walk) (b : Slot) (bs : List Slot) → and_newer w b ≡ delivers bs → (cs : List Slot) × (w ≡ delivers cs) × (bs ≡ cs ++ b ∷ [])
  newer-is (refused n) b bs e = absurd (let z : ◌≡◌ {A = ℕ} 0 1 = cc in omega arith)
  newer-is (delivers cs) b bs e = (cs, refl, (cc))

  one-is : (b : Slot) (bs : List Slot) → delivers (b ∷ []) ≡ delivers bs → bs ≡ b ∷ []
  one-is b bs e = cc

  no_walk : {A : Type 0} (n : ℕ) (bs : List Slot) → refused n ≡ delivers bs → A
  no_walk n bs e = absurd (let z : ◌≡◌ {A = ℕ} 0 1 = cc in omega arith)

  ends_at : (b : Slot) → is_some (parent_of t b) ≡ true → (slot_in (parent_of t b)).round.0 ≤ last → Walked (Has t) last b (b ∷ [])
  ends_at b f l = cases (is_genesis b.parent b.parent_round.0) refl
    where
      cases : (g : Bool) → is_genesis b.parent b.parent_round.0 ≡ g → Walked (Has t) last b (b ∷ [])
      cases true g = bottom g
      cases false g = let h = parent-has t b g f in stop (slot_in (parent_of t b)) g h.1 h.0 l

  goes_on : (b : Slot) (cs : List Slot) → is_some (parent_of t b) ≡ true → last < (slot_in (parent_of t b)).round.0 → Walked (Has t) last (slot_in (parent_of t b)) cs
      → Walked (Has t) last b (cs ++ b ∷ [])
  goes_on b cs f l w = cases (is_genesis b.parent b.parent_round.0) refl
    where
      cases : (g : Bool) → is_genesis b.parent b.parent_round.0 ≡ g → Walked (Has t) last b (cs ++ b ∷ [])
      cases true g =
          let z : (slot_in (parent_of t b)).round.0 ≡ 0 = ap (λ (p : Option Slot). (slot_in p).round.0) (parent-genesis t b g) in
          absurd (omega arith)
      cases false g = let h = parent-has t b g f in more (slot_in (parent_of t b)) g h.1 h.0 l w

  walk_from_lem : (n : ℕ) (b : Slot) (bs : List Slot) → walk_from n t b last ≡ delivers bs → Walked (Has t) last b bs
  unfolding walk_from
  walk_from_lem zero b bs e = no_walk _ bs e
  walk_from_lem (suc n) b bs e = far (ltb (last + 1) b.round.0) refl e (λ c cs. walk_from_lem n c cs)
    where
      Rest : Type 0
      Rest = (c : Slot) (cs : List Slot) → walk_from n t c last ≡ delivers cs → Walked (Has t) last c cs

      above : (u : Bool) → ltb last (slot_in (parent_of t b)).round.0 ≡ u → is_some (parent_of t b) ≡ true
          → cond u (and_newer (walk_from n t (slot_in (parent_of t b)) last) b) (delivers (b ∷ [])) ≡ delivers bs → Rest → Walked (Has t) last b bs
      above true l f e rest =
          let x = newer-is (walk_from n t (slot_in (parent_of t b)) last) b bs e in
          rw x.2 (goes_on b x.0 f (ltb-true _ _ l) (rest (slot_in (parent_of t b)) x.0 x.1))
      above false l f e rest = rw (one-is b bs e) (ends_at b f (ltb-false _ _ l))

      lower : (u : Bool) → is_some (parent_of t b) ≡ true
          → cond u (cond (ltb last (slot_in (parent_of t b)).round.0) (and_newer (walk_from n t (slot_in (parent_of t b)) last) b) (delivers (b ∷ []))) (refused round_not_below) ≡ delivers bs
          → Rest → Walked (Has t) last b bs
      lower true f e rest = above (ltb last (slot_in (parent_of t b)).round.0) refl f e rest
      lower false f e rest = no_walk _ bs e

      there : (u : Bool) → is_some (parent_of t b) ≡ u
          → on_parent b last (parent_of t b) (walk_from n t (slot_in (parent_of t b)) last) ≡ delivers bs
          → Rest → Walked (Has t) last b bs
      there true f e rest = lower (ltb (slot_in (parent_of t b)).round.0 b.round.0) f (sym (on-parent-found b last (parent_of t b) _ f) ∙ e) rest
      there false f e rest = no_walk _ bs (sym (on-parent-absent b last (parent_of t b) _ f) ∙ e)

      far : (u : Bool) → ltb (last + 1) b.round.0 ≡ u → cond u (on_parent b last (parent_of t b) (walk_from n t (slot_in (parent_of t b)) last)) (delivers (b ∷ [])) ≡ delivers bs
          → Rest → Walked (Has t) last b bs
      far true l e rest = there (is_some (parent_of t b)) refl e rest
      far false l e rest = rw (one-is b bs e) (near {s = b} (omega (arith, ltb-false (last + 1) b.round.0 l)))

  -- A walk that delivers goes over slots of the table.
  pub walk-slots : (b : Slot) (bs : List Slot) → walk_of t b last ≡ delivers bs → Walked (Has t) last b bs
  unfolding walk_of
  walk-slots b bs e = walk_from_lem (suc (length t)) b bs e

  -- ---- walks that deliver

  -- what a walk needs at the slot s: its parent is found and is of a lower round, and P holds of a parent that is walked
  pub record Sure (P : Slot → Type 0) (s : Slot) : Type 0 where
    pub found : is_some (parent_of t s) ≡ true
    pub lower : (slot_in (parent_of t s)).round.0 < s.round.0
    pub next : last < (slot_in (parent_of t s)).round.0 → P (slot_in (parent_of t s))

  module _ (P : Slot → Type 0) (sure : (s : Slot) → P s → Sure P s) where
    newer-delivers : (w : Walk) (b : Slot) → (cs : List Slot) × (w ≡ delivers cs) → (bs : List Slot) × (and_newer w b ≡ delivers bs)
    newer-delivers w b k = (k.0 ++ b ∷ [], rw k.1 refl)

    delivers-from : (n : ℕ) (b : Slot) → b.round.0 < n → P b → (bs : List Slot) × (walk_of t b last ≡ delivers bs)
    delivers-from zero b l k = absurd (omega arith)
    delivers-from (suc n) b l k =
        let s = sure b k in
        let step = walk_step t b last in
        rw (step, on-parent-found b last (parent_of t b) _ s.found, lt-ltb (slot_in (parent_of t b)).round.0 b.round.0 s.lower)
        (cases (ltb (last + 1) b.round.0) (ltb last (slot_in (parent_of t b)).round.0) refl (λ h. delivers-from n (slot_in (parent_of t b)) (omega (arith, s.lower)) (s.next h)))
      where
        cases : (u v : Bool) → ltb last (slot_in (parent_of t b)).round.0 ≡ v
            → (last < (slot_in (parent_of t b)).round.0 → (cs : List Slot) × (walk_of t (slot_in (parent_of t b)) last ≡ delivers cs))
            → (bs : List Slot) × (cond u (cond v (and_newer (walk_of t (slot_in (parent_of t b)) last) b) (delivers (b ∷ []))) (delivers (b ∷ [])) ≡ delivers bs)
        cases true true e f = newer-delivers (walk_of t (slot_in (parent_of t b)) last) b (f (ltb-true _ _ e))
        cases true false e f = (b ∷ [], refl)
        cases false v e f = (b ∷ [], refl)

    -- A walk delivers where every parent is found and is of a lower round.
    pub walk-delivers : (b : Slot) → P b → (bs : List Slot) × (walk_of t b last ≡ delivers bs)
    walk-delivers b k = delivers-from (suc b.round.0) b (omega arith) k

-- ---- 30 and 31

-- "30 | b0 or a walked parent absent", "31 | walked parent's round not below its child's"
pub data Stopped (t : List Slot) (b : Slot) (last n : ℕ) : Type 0 where
  no-b0 : n ≡ ancestor_absent → found_number (ancestors_of t b) ≡ ancestor_absent → Stopped t b last n
  in-walk : found_number (ancestors_of t b) ≡ 0 → (b0_of t b).round.0 + 1 ≡ (b1_of t b).round.0 → last < (b0_of t b).round.0
      → walk_of (stored t b) (b0_of t b) last ≡ refused n → Stopped t b last n

module _ (t : List Slot) (w : Arrival) (n : ℕ) (ne : n ≡ 0 → ⊥) (nw : n ≡ wait_parent → ⊥) (nf : n ≡ table_full → ⊥) where
  abbrev b : Slot
  b = w.block

  abbrev last : ℕ
  last = w.last.0

  by-walk : (v : Walk) → (committed_by (b0_of t b) last v).answer ≡ n → v ≡ refused n
  by-walk (refused k) e = ap refused e
  by-walk (delivers bs) e = absurd (ne (sym e))

  by-commit : (x y : Bool) → is_two_chain (b0_of t b) (b1_of t b) ≡ x → ltb last (b0_of t b).round.0 ≡ y → found_number (ancestors_of t b) ≡ 0
      → (cond x (cond y (committed_by (b0_of t b) last (walk_of (stored t b) (b0_of t b) last)) (no_commit last)) (no_commit last)).answer ≡ n → Stopped t b last n
  unfolding is_two_chain
  by-commit true true f g found e = in-walk found (eqb-true _ _ f) (ltb-true _ _ g) (by-walk _ e)
  by-commit true false f g found e = absurd (ne (sym e))
  by-commit false y f g found e = absurd (ne (sym e))

  by-options : (p1 p0 : Option Slot) → found_number (ancestors_by p1 p0) ≡ n → n ≡ ancestor_absent
  by-options None p0 e = absurd (nw (sym e))
  by-options (Some b1) None e = sym e
  by-options (Some b1) (Some b0) e = absurd (ne (sym e))

  by-ancestors : found_number (ancestors_of t b) ≡ n → n ≡ ancestor_absent
  unfolding ancestors_of
  by-ancestors e = by-options (parent_of t b) (parent_of t (b1_of t b)) e

  by-store : (x y : Bool) → eqb (found_number (ancestors_of t b)) 0 ≡ x
      → (cond x (cond y (linked_of (stored t b) b (b0_of t b) (b1_of t b) last) (answered table_full t last [])) (answered (found_number (ancestors_of t b)) t last [])).answer ≡ n
      → Stopped t b last n
  unfolding linked_of commit_if commit_of
  by-store true true f e = by-commit (is_two_chain (b0_of t b) (b1_of t b)) (ltb last (b0_of t b).round.0) refl refl (eqb-true _ 0 f) e
  by-store true false f e = absurd (nf (sym e))
  by-store false y f e = let a = by-ancestors e in no-b0 a (e ∙ a)

  -- What a block met that is answered another number than 0, 2 and 28.
  pub settled-stopped : (settled_of t (brought w)).answer ≡ n → Stopped t b last n
  settled-stopped e =
      by-store (eqb (found_number (ancestors_of t b)) 0) (ltb (place_of t b) (length t)) refl (rw (settled-block t w, processed-is t w) at e)
