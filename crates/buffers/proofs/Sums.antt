-- Two lists by their first elements, and the sum as a fold. Assumes nothing.
use Rattle.std.proofs.Common.{◌≡◌, refl, ◌∙◌, ℕ, zero, suc, ◌+◌, ◌≤◌, Bool, true, false, cond, List, [], ◌∷◌, length, take, nat_eq, arith}
use Rattle.std.specs.List.{fold}
use Rattle.buffers.specs.Buffers.{Alike, common, mixed, sum_of}
use borrow.Author.Tests.{eqb-true, eq-eqb}

module _ {a b : List ℕ} {n x y : ℕ} where
  alike-more : {r : ℕ} → x ≡ y → Alike a b n r → Alike (x ∷ a) (y ∷ b) (suc n) (1 + r)
  alike-more {r} e p =
      let on : 1 + r ≡ suc r = omega arith in
      rw on (record { most = omega (arith, p.most); same = rw (e, p.same) refl; next = λ l d. p.next (omega arith) d })

  alike-none : (x ≡ y → ⊥) → Alike (x ∷ a) (y ∷ b) (suc n) 0
  alike-none h = record { most = omega arith; same = refl; next = λ l d. h d }

  by-test : {r : ℕ} (t : Bool) → nat_eq x y ≡ t → Alike a b n r → Alike (x ∷ a) (y ∷ b) (suc n) (cond t (1 + r) 0)
  by-test true e p = alike-more (eqb-true x y e) p
  by-test false e p = alike-none (λ d. absurd (cc (eq-eqb x y d)))

pub alike_parts : (a b : List ℕ) (n : ℕ) → n ≤ length a → n ≤ length b → Alike a b n (common (take n a) (take n b))
alike_parts a b zero h k = record { most = omega arith; same = refl; next = λ l d. omega arith }
alike_parts [] b (suc n) h k = absurd (omega arith)
alike_parts (x ∷ a) [] (suc n) h k = absurd (omega arith)
alike_parts (x ∷ a) (y ∷ b) (suc n) h k = by-test (nat_eq x y) refl (alike_parts a b n (omega arith) (omega arith))

folded : (h : ℕ) (s : List ℕ) → fold mixed h s ≡ sum_of h s
unfolding sum_of
folded h [] = refl
folded h (x ∷ s) = folded (mixed h x) s

pub sum_by_fold : (h : ℕ) (s : List ℕ) {r : ℕ} → r ≡ fold mixed h s → r ≡ sum_of h s
sum_by_fold h s e = e ∙ folded h s
