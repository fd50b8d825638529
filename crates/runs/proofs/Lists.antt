-- Records in a list, and those of them that are looked for. Assumes nothing.
--     only-append                     what is looked for in two lists, one after the other
--     only-head, only-skip            in a list, by its first record
--     written-only, behind-only       what stands in a list, or behind another record, stands so among those looked for
--     written-ordered                 two records of one list are the same, or one stands behind the other
--     written_none, written_one       what stands in a list of no record, and of one
--     written-front, written_behind, written_either     what stands in two lists, one after the other
use mathlib.Core.Bool.{Bool, true, false, cond}
use mathlib.Core.List.{List, [], ◌∷◌, ◌++◌, append_assoc}
use mathlib.Core.Logic.{◌⊎◌, inl, inr, ⊎_elim}
use mathlib.Core.Path.{◌≡◌, refl, sym, ◌∙◌, ap}
use native.Mathlib.Omega.{arith}
use lib.ListN.{length, length-append}
use Rattle.outputs.specs.Records.{Rec}
use Rattle.runs.specs.Runs.{Written, Behind, only}

module _ (p : Rec → Bool) where
  pub only-head : (r : Rec) (rs : List Rec) → p r ≡ true → only p (r ∷ rs) ≡ r ∷ only p rs
  unfolding only
  only-head r rs e = rw e

  pub only-skip : (r : Rec) (rs : List Rec) → p r ≡ false → only p (r ∷ rs) ≡ only p rs
  unfolding only
  only-skip r rs e = rw e

  cond-append : (t : Bool) (r : Rec) (xs ys : List Rec) → cond t (r ∷ (xs ++ ys)) (xs ++ ys) ≡ cond t (r ∷ xs) xs ++ ys
  cond-append true r xs ys = refl
  cond-append false r xs ys = refl

  pub only-append : (xs ys : List Rec) → only p (xs ++ ys) ≡ only p xs ++ only p ys
  unfolding only
  only-append [] ys = refl
  only-append (r ∷ xs) ys = rw (only-append xs ys) (cond-append (p r) r (only p xs) (only p ys))

  pub written-only : {a : Rec} {rs : List Rec} → p a ≡ true → Written a rs → Written a (only p rs)
  written-only {a} h w =
      record {
        before = only p w.before;
        rest = only p w.rest;
        is = ap (only p) w.is ∙ only-append w.before (a ∷ w.rest) ∙ ap (λ (l : List Rec). only p w.before ++ l) (only-head a w.rest h);
      }

  pub behind-only : {a b : Rec} {rs : List Rec} → p a ≡ true → p b ≡ true → Behind a b rs → Behind a b (only p rs)
  behind-only {a} {b} h k w =
      record {
        before = only p w.before;
        between = only p w.between;
        rest = only p w.rest;
        is = ap (only p) w.is ∙ rw (only-append, only-head a (w.between ++ (b ∷ w.rest)) h, only-append, only-head b w.rest k);
      }

-- ---- two records of one list: the same, or one behind the other

behind_more : {a b x : Rec} {rs : List Rec} → Behind a b rs → Behind a b (x ∷ rs)
behind_more {x = x} k = record { before = x ∷ k.before; between = k.between; rest = k.rest; is = ap (λ (l : List Rec). x ∷ l) k.is }

ordered-more : {a b x : Rec} {rs : List Rec} → (a ≡ b) ⊎ (Behind a b rs ⊎ Behind b a rs) → (a ≡ b) ⊎ (Behind a b (x ∷ rs) ⊎ Behind b a (x ∷ rs))
ordered-more (inl e) = inl e
ordered-more (inr (inl k)) = inr (inl (behind_more k))
ordered-more (inr (inr k)) = inr (inr (behind_more k))

ordered : (a b : Rec) (xs ys xs' ys' : List Rec) → xs ++ (a ∷ ys) ≡ xs' ++ (b ∷ ys') → (a ≡ b) ⊎ (Behind a b (xs ++ (a ∷ ys)) ⊎ Behind b a (xs ++ (a ∷ ys)))
ordered a b [] ys [] ys' e = inl (cc)
ordered a b [] ys (x ∷ xs') ys' e =
    let f : ys ≡ xs' ++ (b ∷ ys') = cc in
    inr (inl (record { before = []; between = xs'; rest = ys'; is = ap (λ (l : List Rec). a ∷ l) f }))
ordered a b (x ∷ xs) ys [] ys' e =
    let f : x ≡ b = cc in
    inr (inr (record { before = []; between = xs; rest = ys; is = ap (λ (r : Rec). r ∷ (xs ++ (a ∷ ys))) f }))
ordered a b (x ∷ xs) ys (z ∷ xs') ys' e = let f : xs ++ (a ∷ ys) ≡ xs' ++ (b ∷ ys') = cc in ordered-more (ordered a b xs ys xs' ys' f)

pub written-ordered : {a b : Rec} {rs : List Rec} → Written a rs → Written b rs → (a ≡ b) ⊎ (Behind a b rs ⊎ Behind b a rs)
written-ordered {a} {b} p q = rw p.is (ordered a b p.before p.rest q.before q.rest (sym p.is ∙ q.is))

-- ---- short lists

none-at : (a : Rec) (xs ys : List Rec) → [] ≡ xs ++ (a ∷ ys) → ⊥
none-at a xs ys e = omega (arith, simp length-append at (ap length e))

pub written_none : {a : Rec} → Written a [] → ⊥
written_none {a} w = none-at a w.before w.rest w.is

one_at : (a b : Rec) (xs ys : List Rec) → b ∷ [] ≡ xs ++ (a ∷ ys) → a ≡ b
one_at a b [] ys e = cc
one_at a b (x ∷ xs) ys e = let f : [] ≡ xs ++ (a ∷ ys) = cc in absurd (none-at a xs ys f)

pub written_one : {a b : Rec} → Written a (b ∷ []) → a ≡ b
written_one {a} {b} w = one_at a b w.before w.rest w.is

-- ---- two lists, one after the other

pub written_behind : {a : Rec} (xs : List Rec) {ys : List Rec} → Written a ys → Written a (xs ++ ys)
written_behind {a} xs w = record { before = xs ++ w.before; rest = w.rest; is = ap (λ (l : List Rec). xs ++ l) w.is ∙ sym (append_assoc xs w.before (a ∷ w.rest)) }

pub written-front : {a : Rec} {xs : List Rec} (ys : List Rec) → Written a xs → Written a (xs ++ ys)
written-front {a} ys w = record { before = w.before; rest = w.rest ++ ys; is = ap (λ (l : List Rec). l ++ ys) w.is ∙ append_assoc w.before (a ∷ w.rest) ys }

in_either : (a : Rec) (xs ys bs cs : List Rec) → xs ++ ys ≡ bs ++ (a ∷ cs) → Written a xs ⊎ Written a ys
in_either a [] ys bs cs e = inr (record { before = bs; rest = cs; is = e })
in_either a (x ∷ xs) ys [] cs e = let f : x ≡ a = cc in inl (record { before = []; rest = xs; is = ap (λ (r : Rec). r ∷ xs) f })
in_either a (x ∷ xs) ys (b ∷ bs) cs e =
    let f : xs ++ ys ≡ bs ++ (a ∷ cs) = cc in
    ⊎_elim
    (λ w. inl (record { before = x ∷ w.before; rest = w.rest; is = ap (λ (l : List Rec). x ∷ l) w.is }))
    (λ w. inr w)
    (in_either a xs ys bs cs f)

pub written_either : {a : Rec} (xs ys : List Rec) → Written a (xs ++ ys) → Written a xs ⊎ Written a ys
written_either {a} xs ys w = in_either a xs ys w.before w.rest w.is
