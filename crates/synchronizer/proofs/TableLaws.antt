-- Laws of `specs/Table.antt`.
--     found-lowest    what is found is the lowest place, where that is one of the table
--     found-at        where a slot was found, it is the one at its place
--     or-refused, or-given     what an option was that has a refusal for none
--     given-.., no-parent, no-grandparent, both-found     a parent and the ancestors, as code comes by them
--     ancestors-are, ancestors-found   what is found: the parent and the grandparent
--     ancestors-both  both ancestors are found where the number is 0
--     store-..        a store, as code comes to it
--     stored-length, cleared-length the table is as long as before
-- Assumes nothing.
use mathlib.Core.Path.{◌≡◌, refl, sym, ◌∙◌, ap}
use Prim.Native.Nat.{ℕ, ◌<◌}
use native.Mathlib.Omega.{arith}
use mathlib.Core.Bool.{Bool, true, false, cond, true≢false}
use mathlib.Core.List.{List, [], ◌∷◌}
use lib.Dec.{ltb}
use borrow.Author.Tests.{ltb-true, ltb-false}
use lib.ListN.{length, set, length-set, length-replicate}
use lib.Seq.{set_out}
use Rattle.std.specs.Prelude.{Option, Some, None, is_some, Ok, Err}
use Rattle.std.specs.List.{position_or_len}
use Rattle.std.specs.Option.{option_or, ok_or}
use Rattle.synchronizer.specs.declared.table.Slot.{Slot}
use Rattle.synchronizer.specs.declared.table.Want.{Want}
use Rattle.synchronizer.specs.declared.table.Want.TheVariants.{Free, Digest}
use Rattle.synchronizer.specs.declared.ancestors.Ancestors.{Ancestors}
use Rattle.certificates.specs.declared.error.Refusal.{Refusal}
use Rattle.certificates.specs.declared.error.Refusal.TheVariants.{WaitParent, TableFull, AncestorAbsent}
use Rattle.certificates.specs.Error.{code}
use Rattle.certificates.specs.Numbers.{zero_hash}
use Rattle.certificates.specs.Messages.{is_genesis}
use Rattle.certificates.proofs.MessageLaws.{genesis-round}
use Rattle.std.proofs.lemmas.Option.{cond_some, none-some}
use Rattle.synchronizer.specs.Table.{blank, slot_at, fits, lowest, found_in, place_of, stored, store_answer, cleared, genesis, found_at, parent_of, slot_in, b0_of, b1_of, ancestors_by, ancestors_of, found_number}
use Rattle.synchronizer.specs.Parts.{with_found}
use Rattle.synchronizer.proofs.Tests.{by_cases}

-- ---- what was found

first-lowest : (t : List Slot) (w : Want) → position_or_len (λ s. fits s w) t ≡ lowest t w
unfolding lowest
first-lowest [] w = refl
first-lowest (s ∷ t) w = by_cases (fits s w) (λ e. rw e) (λ e. rw (e, first-lowest t w) (omega arith))

pub found-lowest : (t : List Slot) (w : Want) → found_in t w ≡ cond (ltb (lowest t w) (length t)) (Some (lowest t w)) None
found-lowest t w = rw (first-lowest t w)

pub found-at : (t : List Slot) (i : ℕ) → is_some (found_at t i) ≡ true → (i < length t) × (found_at t i ≡ Some (slot_at t i))
found-at t i =
    by_cases (ltb i (length t))
    (λ e. rw e (λ f. (ltb-true _ _ e, refl)))
    (λ e. rw e (λ f. absurd (true≢false (sym f))))

-- ---- parents, as code comes by them

module _ (t : List Slot) (b : Slot) where
  pub given-genesis : {g : Slot} → is_genesis b.parent b.parent_round.0 ≡ true → g ≡ genesis → Some g ≡ parent_of t b
  unfolding parent_of
  given-genesis e h = rw (e, h)

  module _ (e : is_genesis b.parent b.parent_round.0 ≡ false) where
    pub given-none : found_in t (Digest b.parent) ≡ None → None ≡ parent_of t b
    unfolding parent_of
    given-none h = rw e (cases (ltb (lowest t (Digest b.parent)) (length t)) (sym (found-lowest t (Digest b.parent)) ∙ h))
      where
        cases : (u : Bool) → cond u (Some (lowest t (Digest b.parent))) None ≡ None → None ≡ cond u (Some (slot_at t (lowest t (Digest b.parent)))) None
        cases true f = absurd (none-some _ (sym f))
        cases false f = refl

    pub given-some : {i : ℕ} → found_in t (Digest b.parent) ≡ Some i → Some (slot_at t i) ≡ parent_of t b
    unfolding parent_of
    given-some {i} h = let k = cond_some _ _ _ (sym (found-lowest t (Digest b.parent)) ∙ h) in rw (e, k.0, k.1)

-- what an option was, by what it comes to with a refusal for none
pub or-refused : {A : Type 0} (o : Option A) (e : Refusal) {x : Refusal} → ok_or o e ≡ Err x → (o ≡ None) × (e ≡ x)
or-refused None e h = (refl, (cc))
or-refused (Some y) e h = absurd (let z : ◌≡◌ {A = ℕ} 0 1 = cc in omega arith)

pub or-given : {A : Type 0} (o : Option A) (e : Refusal) {x : A} → ok_or o e ≡ Ok x → o ≡ Some x
or-given None e h = absurd (let z : ◌≡◌ {A = ℕ} 0 1 = cc in omega arith)
or-given (Some y) e h = let same : y ≡ _ = cc in ap Some same

-- the QC of a blank slot equals genesis
blank-parent : (t : List Slot) → parent_of t blank ≡ Some genesis
unfolding parent_of
blank-parent t = rw (sym (genesis-round zero_hash 0 refl refl))

module _ (t : List Slot) (b : Slot) {p : Option Slot} (e : p ≡ parent_of t b) where
  pub no-parent : {b0 b1 : Slot} → p ≡ None → b0 ≡ genesis → b1 ≡ blank
      → Err (record { refusal = WaitParent; found = record { b0 = b0; b1 = b1 } }) ≡ with_found t b (ancestors_of t b)
  unfolding ancestors_of
  no-parent none g s = let is = sym e ∙ none in rw (is, is, blank-parent t, g, s)

  module _ {b1 : Slot} (one : p ≡ Some b1) {q : Option Slot} (f : q ≡ parent_of t b1) where
    pub no-grandparent : {b0 : Slot} → q ≡ None → b0 ≡ blank
        → Err (record { refusal = AncestorAbsent; found = record { b0 = b0; b1 = b1 } }) ≡ with_found t b (ancestors_of t b)
    unfolding ancestors_of
    no-grandparent none s = let is = sym e ∙ one in let absent = sym f ∙ none in rw (is, absent, is, absent, s)

    pub both-found : {b0 : Slot} → q ≡ Some b0 → Ok (record { b0 = b0; b1 = b1 }) ≡ with_found t b (ancestors_of t b)
    unfolding ancestors_of
    both-found some = let is = sym e ∙ one in let found = sym f ∙ some in rw (is, found)

-- the ancestors that were found are the parent and the grandparent
by-found : (p1 p0 : Option Slot) {a : Ancestors} → ancestors_by p1 p0 ≡ Ok a → a ≡ record { b0 = slot_in p0; b1 = slot_in p1 }
by-found None p0 e = absurd (let z : ◌≡◌ {A = ℕ} 0 1 = cc in omega arith)
by-found (Some b1) None e = absurd (let z : ◌≡◌ {A = ℕ} 0 1 = cc in omega arith)
by-found (Some b1) (Some b0) e = cc

by-number : (p1 p0 : Option Slot) → found_number (ancestors_by p1 p0) ≡ 0 → ancestors_by p1 p0 ≡ Ok (record { b0 = slot_in p0; b1 = slot_in p1 })
by-number None p0 e = absurd (omega arith)
by-number (Some b1) None e = absurd (omega arith)
by-number (Some b1) (Some b0) e = refl

by-both : (p1 p0 : Option Slot) → found_number (ancestors_by p1 p0) ≡ 0 → (is_some p1 ≡ true) × (is_some p0 ≡ true)
by-both None p0 e = absurd (omega arith)
by-both (Some b1) None e = absurd (omega arith)
by-both (Some b1) (Some b0) e = (refl, refl)

pub ancestors-are : (t : List Slot) (b : Slot) {a : Ancestors} → ancestors_of t b ≡ Ok a → a ≡ record { b0 = b0_of t b; b1 = b1_of t b }
unfolding ancestors_of
ancestors-are t b e = by-found (parent_of t b) (parent_of t (b1_of t b)) e

pub ancestors-found : (t : List Slot) (b : Slot) → found_number (ancestors_of t b) ≡ 0 → ancestors_of t b ≡ Ok (record { b0 = b0_of t b; b1 = b1_of t b })
unfolding ancestors_of
ancestors-found t b e = by-number (parent_of t b) (parent_of t (b1_of t b)) e

pub ancestors-both : (t : List Slot) (b : Slot) → found_number (ancestors_of t b) ≡ 0 → (is_some (parent_of t b) ≡ true) × (is_some (parent_of t (b1_of t b)) ≡ true)
unfolding ancestors_of
ancestors-both t b e = by-both (parent_of t b) (parent_of t (b1_of t b)) e

-- ---- a store, as code comes to it

-- where the digest is, or else a free slot
place_found : (t : List Slot) (b : Slot) → option_or (found_in t (Digest b.digest)) (found_in t Free) ≡ cond (ltb (place_of t b) (length t)) (Some (place_of t b)) None
unfolding place_of
place_found t b =
    rw (found-lowest t (Digest b.digest), found-lowest t Free)
    (by_cases (ltb (lowest t (Digest b.digest)) (length t)) (λ e. rw (e, e)) (λ e. rw e))

-- one option, or another that is asked for where there is none
pub or-else : (o q r : Option ℕ) → (o ≡ None → r ≡ q) → ((x : ℕ) → o ≡ Some x → r ≡ Some x) → r ≡ option_or o q
or-else None q r f g = f refl
or-else (Some x) q r f g = g x refl

module _ (t : List Slot) (b : Slot) {r : Option ℕ} (e : r ≡ option_or (found_in t (Digest b.digest)) (found_in t Free)) where
  pub store-some : {i : ℕ} {zs : List Slot} → ok_or r TableFull ≡ Ok i → zs ≡ set t i b → (0 ≡ store_answer (place_of t b) (length t)) × (zs ≡ stored t b)
  unfolding stored
  store-some {i} h f = let k = cond_some _ _ _ (sym (e ∙ place_found t b) ∙ or-given r TableFull h) in (rw k.0, rw (f, k.1))

  -- a store that is refused changes nothing
  pub store-none : {x : Refusal} → ok_or r TableFull ≡ Err x → (code x ≡ store_answer (place_of t b) (length t)) × (t ≡ stored t b)
  unfolding stored
  store-none h =
      let n = or-refused r TableFull h in
      by_cases (ltb (place_of t b) (length t))
      (λ f. let is : None ≡ Some (place_of t b) = sym n.0 ∙ e ∙ place_found t b ∙ rw f in absurd (none-some _ is))
      (λ f. (rw (f, ← n.1), sym (set_out t (place_of t b) b (ltb-false _ _ f))))

-- ---- the table is as long as before

pub stored-length : (t : List Slot) (b : Slot) → length (stored t b) ≡ length t
unfolding stored
stored-length t b = length-set t (place_of t b) b

pub cleared-length : (t : List Slot) → length (cleared t) ≡ length t
unfolding cleared
cleared-length t = length-replicate (length t) blank
