-- Lists of places: what is among them, and what is among the first of them. Assumes nothing.
use Prim.Native.Nat.{ℕ, zero, suc, ◌+◌, ◌<◌}
use mathlib.Core.Path.{◌≡◌, refl, sym, ap, ◌∙◌}
use mathlib.Core.Logic.{by_cases}
use mathlib.Core.List.{List, [], ◌∷◌, ◌++◌}
use mathlib.Core.Bool.{Bool, true, false, cond, ◌||◌, or-false, or-true, or_assoc}
use native.Mathlib.Decide.{ℕ_discrete}
use native.Mathlib.Omega.{arith}
use native.Mathlib.Numerals.{add-one}
use lib.ListN.{length, get_or, take}
use lib.Seq.{take-suc}
use lib.Dec.{eqb}
use borrow.Author.Tests.{eq-eqb, ne_eqb}
use Rattle.certificates.specs.Signers.{member, shared}

pub member-snoc : (p : ℕ) (ps : List ℕ) (q : ℕ) → member p (ps ++ q ∷ []) ≡ (member p ps || eqb p q)
unfolding member
member-snoc p [] q = or-false (eqb p q)
member-snoc p (x ∷ ps) q = ap (λ (b : Bool). eqb p x || b) (member-snoc p ps q) ∙ rw or_assoc

-- a place that stands at j is among the first i
pub member-take : (p : ℕ) (ps : List ℕ) (i j : ℕ) → j < i → j < length ps → get_or ps j 0 ≡ p → member p (take i ps) ≡ true
unfolding member
member-take p [] i j h l e = absurd (omega arith)
member-take p (x ∷ ps) zero j h l e = absurd (omega arith)
member-take p (x ∷ ps) (suc i) zero h l e = rw (eq-eqb p x (cc))
member-take p (x ∷ ps) (suc i) (suc j) h l e = rw (member-take p ps i j (omega arith) (omega arith) e, or-true)

-- a place that is among the first i stands at one of them
pub member-index : (p : ℕ) (ps : List ℕ) (i : ℕ) → member p (take i ps) ≡ true → (j : ℕ) × (j < i) × (j < length ps) × (get_or ps j 0 ≡ p)
unfolding member
member-index p [] zero h = absurd (cc)
member-index p [] (suc i) h = absurd (cc)
member-index p (x ∷ ps) zero h = absurd (cc)
member-index p (x ∷ ps) (suc i) h =
    by_cases (ℕ_discrete p x)
    (λ e. (0, omega arith, omega arith, sym e))
    (λ n.
    let t = member-index p ps i (rw (ne_eqb p x n) at h) in
    (suc t.0, omega arith, omega arith, t.3))

-- a place that is not among the first j, and not at j, is not among the first j + 1
pub member-more : (p : ℕ) (ps : List ℕ) (j : ℕ) → j < length ps → member p (take j ps) ≡ false → (get_or ps j 0 ≡ p → ⊥) → member p (take (j + 1) ps) ≡ false
member-more p ps j h fresh other = rw (add-one, take-suc ps j 0 h, member-snoc, fresh, ne_eqb p (get_or ps j 0) (λ e. other (sym e)))

-- ---- what two lists share

cond_same : (b : Bool) → cond b false false ≡ false
cond_same true = refl
cond_same false = refl

-- whether q is among the shared, where a first place p is shared or not
module _ (q p : ℕ) (ps qs : List ℕ) (rest : member q (shared ps qs) ≡ cond (member q ps) (member q qs) false) where
  shared-first : (b : Bool) → member p qs ≡ b → member q (cond b (p ∷ shared ps qs) (shared ps qs)) ≡ cond (member q (p ∷ ps)) (member q qs) false
  unfolding member
  shared-first true e =
      by_cases (ℕ_discrete q p)
      (λ s. rw (eq-eqb q p s) (sym (ap (λ (x : ℕ). member x qs) s ∙ e)))
      (λ n. rw (ne_eqb q p n) rest)
  shared-first false e =
      by_cases (ℕ_discrete q p)
      (λ s.
      let out : member q qs ≡ false = ap (λ (x : ℕ). member x qs) s ∙ e in
      rw (eq-eqb q p s) (rest ∙ rw out (cond_same (member q ps))))
      (λ n. rw (ne_eqb q p n) rest)

pub member-shared : (q : ℕ) (ps qs : List ℕ) → member q (shared ps qs) ≡ cond (member q ps) (member q qs) false
unfolding shared member
member-shared q [] qs = refl
member-shared q (p ∷ ps) qs = shared-first q p ps qs (member-shared q ps qs) (member p qs) refl
