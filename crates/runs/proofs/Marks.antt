-- A mark that records move up: some records have to be above it, and none moves it down. One law for votes and for deliveries. Assumes nothing.
--     Mark                       what a record does: nothing, stand above the mark and raise it to its round, raise it to at least its round
--     later a t                  the later of two rounds
--     Holds m a, next m a        what has to hold at the mark a, and the mark after it
--     Marked f a rs b            the records rs are in order and take the mark from a to b
--     marked_append, marked-le   two lists in a row; a mark never falls
--     marked-above               a record that stands above the mark
--     marked-behind              .. and behind another
--     marked-within, marked-last   the mark after a list is not below its records, and is the round of the last that stands above
use Prim.Native.Nat.{ℕ, ◌≤◌, ◌<◌}
use mathlib.Core.Bool.{Bool, true, false, cond}
use mathlib.Core.List.{List, [], ◌∷◌, ◌++◌}
use mathlib.Core.Path.{◌≡◌, refl, sym, ◌∙◌}
use native.Mathlib.Omega.{arith}
use borrow.Author.Tests.{ltb-true, ltb-false}
use lib.Dec.{ltb}
use Rattle.outputs.specs.Records.{Rec}

pub data Mark : Type 0 where
  skip : Mark
  above : ℕ → Mark
  reach : ℕ → Mark

unfoldable pub later : ℕ → ℕ → ℕ
later a t = cond (ltb a t) t a

abbrev pub Holds : Mark → ℕ → Type 0
Holds skip a = Unit {0}
Holds (above n) a = a < n
Holds (reach t) a = Unit {0}

abbrev pub next : Mark → ℕ → ℕ
next skip a = a
next (above n) a = n
next (reach t) a = later a t

-- the round of a record that has one
abbrev pub level_of : Mark → ℕ
level_of skip = 0
level_of (above n) = n
level_of (reach t) = t

unfoldable pub Marked : (Rec → Mark) → ℕ → List Rec → ℕ → Type 0
Marked f a [] b = a ≡ b
Marked f a (r ∷ rs) b = Holds (f r) a × Marked f (next (f r) a) rs b

by-ltb : (a t : ℕ) (b : Bool) → ltb a t ≡ b → (a ≤ cond b t a) × (t ≤ cond b t a)
by-ltb a t true e = (omega (arith, ltb-true a t e), omega arith)
by-ltb a t false e = (omega arith, ltb-false a t e)

pub later-le : (a t : ℕ) → (a ≤ later a t) × (t ≤ later a t)
unfolding later
later-le a t = by-ltb a t (ltb a t) refl

next_le : (m : Mark) (a : ℕ) → Holds m a → a ≤ next m a
next_le skip a h = omega arith
next_le (above n) a h = omega arith
next_le (reach t) a h = (later-le a t).0

next-round : (m : Mark) (a : ℕ) → level_of m ≤ next m a
next-round skip a = omega arith
next-round (above n) a = omega arith
next-round (reach t) a = (later-le a t).1

module _ (f : Rec → Mark) where
  pub marked_append : (a b c : ℕ) (xs ys : List Rec) → Marked f a xs b → Marked f b ys c → Marked f a (xs ++ ys) c
  unfolding Marked
  marked_append a b c [] ys e k = rw e k
  marked_append a b c (x ∷ xs) ys h k = (h.0, marked_append (next (f x) a) b c xs ys h.1 k)

  pub marked-le : (a b : ℕ) (xs : List Rec) → Marked f a xs b → a ≤ b
  unfolding Marked
  marked-le a b [] e = omega arith
  marked-le a b (x ∷ xs) h = omega (arith, next_le (f x) a h.0, marked-le (next (f x) a) b xs h.1)

  holds-above : (m : Mark) (a n : ℕ) → m ≡ above n → Holds m a → a < n
  holds-above m a n e h = rw e at h

  pub marked-above : (a b n : ℕ) (xs ys : List Rec) (y : Rec) → f y ≡ above n → Marked f a (xs ++ (y ∷ ys)) b → a < n
  unfolding Marked
  marked-above a b n [] ys y e h = holds-above (f y) a n e h.0
  marked-above a b n (x ∷ xs) ys y e h = omega (arith, next_le (f x) a h.0, marked-above (next (f x) a) b n xs ys y e h.1)

  pub marked-behind : (a b n : ℕ) (xs ys zs : List Rec) (x y : Rec) → f y ≡ above n → Marked f a (xs ++ (x ∷ ys ++ (y ∷ zs))) b → level_of (f x) < n
  unfolding Marked
  marked-behind a b n [] ys zs x y e h = omega (arith, next-round (f x) a, marked-above (next (f x) a) b n ys zs y e h.1)
  marked-behind a b n (w ∷ xs) ys zs x y e h = marked-behind (next (f w) a) b n xs ys zs x y e h.1

  pub marked-within : (a b : ℕ) (xs ys : List Rec) (x : Rec) → Marked f a (xs ++ (x ∷ ys)) b → level_of (f x) ≤ b
  unfolding Marked
  marked-within a b [] ys x h = omega (arith, next-round (f x) a, marked-le (next (f x) a) b ys h.1)
  marked-within a b (w ∷ xs) ys x h = marked-within (next (f w) a) b xs ys x h.1

  next-above : (m : Mark) (a n : ℕ) → m ≡ above n → next m a ≡ n
  next-above m a n e = rw e

  -- the mark after a list that ends with a record that stands above
  pub marked-last : (a b n : ℕ) (xs : List Rec) (y : Rec) → f y ≡ above n → Marked f a (xs ++ (y ∷ [])) b → b ≡ n
  unfolding Marked
  marked-last a b n [] y e h = sym h.1 ∙ next-above (f y) a n e
  marked-last a b n (x ∷ xs) y e h = marked-last (next (f x) a) b n xs y e h.1
