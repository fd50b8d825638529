-- Laws of `specs/Walk.antt`.
--     below t r            how many slots have a round below r
--     walk_step            a walk is what its first parent makes of the rest: the budget of `walk_of` never runs out
--     walk-size            a walk delivers at most one block more than there are slots below its start
--     walk-chain           what a walk delivers is the chain from its start, and is not empty
--     walk-rises, commit-rising     the rounds of what is delivered rise from above the last committed one to that of the start
--     commit-size, commit-chain, commit-genesis     the same of a commit; genesis is never committed
--     commit-never-waits   a commit does not answer WAIT PARENT
--     on-parent-found, on-parent-absent     what a walk makes of a parent that is found, and of none
--     Counts, counts-..    a count that has come to a block: its start, one parent more, and its ends
-- Assumes nothing.
use mathlib.Core.Path.{◌≡◌, refl, sym, ◌∙◌, ap}
use Prim.Native.Nat.{ℕ, zero, suc, ◌+◌, ◌-◌, ◌<◌, ◌≤◌}
use native.Mathlib.Numerals.{add-one}
use native.Mathlib.Omega.{arith}
use native.Mathlib.Nat.{not-suc-le-zero, le_of_suc-le-suc}
use mathlib.Core.Bool.{true, false, cond, true≢false}
use mathlib.Core.List.{List, [], ◌∷◌, ◌++◌}
use lib.Dec.{ltb}
use lib.ListN.{length, length-append}
use borrow.Author.Tests.{lt-ltb, le-ltb, ltb-true, ltb-false}
use Rattle.certificates.specs.Messages.{is_genesis}
use Rattle.std.specs.Prelude.{Option, Some, None, is_some, Result, Ok, Err}
use Rattle.synchronizer.specs.declared.table.Slot.{Slot}
use Rattle.synchronizer.specs.declared.table.Want.TheVariants.{Digest}
use Rattle.certificates.specs.declared.error.Refusal.{Refusal}
use Rattle.certificates.specs.Error.{wait_parent, ancestor_absent, round_not_below, code}
use Rattle.synchronizer.specs.Table.{slot_at, lowest, genesis, parent_of, slot_in}
use Rattle.synchronizer.specs.Walk.{Walk, refused, delivers, and_newer, on_parent, walk_from, walk_of, no_commit, committed_by, commit_of, chain_of}
use Rattle.synchronizer.specs.Parts.{Count, counted, count_of, next_walked}
use Rattle.synchronizer.proofs.Tests.{by_cases}
use Rattle.synchronizer.proofs.TableLaws.{found-at}

-- ---- slots below a round

unfoldable pub below : List Slot → ℕ → ℕ
below [] r = 0
below (s ∷ t) r = cond (ltb s.round.0 r) (suc (below t r)) (below t r)

-- one slot more, by the test of it
below_in : (s : Slot) (t : List Slot) (r : ℕ) → s.round.0 < r → below (s ∷ t) r ≡ suc (below t r)
unfolding below
below_in s t r l = rw (lt-ltb _ _ l)

below_out : (s : Slot) (t : List Slot) (r : ℕ) → r ≤ s.round.0 → below (s ∷ t) r ≡ below t r
unfolding below
below_out s t r l = rw (le-ltb _ _ l)

pub below-le : (t : List Slot) (r : ℕ) → below t r ≤ length t
unfolding below
below-le [] r = omega arith
below-le (s ∷ t) r =
    by_cases (ltb s.round.0 r)
    (λ e. rw e (omega (arith, below-le t r)))
    (λ e. rw e (omega (arith, below-le t r)))

pub below-mono : (t : List Slot) (r q : ℕ) → r ≤ q → below t r ≤ below t q
unfolding below
below-mono [] r q h = omega arith
below-mono (s ∷ t) r q h =
    by_cases (ltb s.round.0 r)
    (λ e. let l : s.round.0 < q = omega (arith, ltb-true s.round.0 r e) in
    rw (e, lt-ltb _ _ l) (omega (arith, below-mono t r q h)))
    (λ e. by_cases (ltb s.round.0 q)
    (λ f. rw (e, f) (omega (arith, below-mono t r q h)))
    (λ f. rw (e, f) (below-mono t r q h)))

-- a slot of the table is not below its own round
pub below-slot : (t : List Slot) (i r : ℕ) → i < length t → (slot_at t i).round.0 < r → below t (slot_at t i).round.0 < below t r
below-slot [] i r h l = absurd (not-suc-le-zero h)
below-slot (s ∷ t) zero r h l = rw (below_out s t s.round.0 (omega arith), below_in s t r l) (omega (arith, below-mono t s.round.0 r (omega arith)))
below-slot (s ∷ t) (suc i) r h l =
    let p : below t (slot_at t i).round.0 < below t r = below-slot t i r (le_of_suc-le-suc h) l in
    by_cases (ltb s.round.0 (slot_at t i).round.0)
    (λ e. let m : s.round.0 < (slot_at t i).round.0 = ltb-true _ _ e in rw (below_in s t _ m, below_in s t r (omega arith)) (omega arith))
    (λ e. let m : (slot_at t i).round.0 ≤ s.round.0 = ltb-false _ _ e in
    by_cases (ltb s.round.0 r)
    (λ f. rw (below_out s t _ m, below_in s t r (ltb-true _ _ f)) (omega arith))
    (λ f. rw (below_out s t _ m, below_out s t r (ltb-false _ _ f)) p))

-- where a slot is not below a round, not all are
pub below-some : (t : List Slot) (i r : ℕ) → i < length t → r ≤ (slot_at t i).round.0 → below t r < length t
below-some [] i r h l = absurd (not-suc-le-zero h)
below-some (s ∷ t) zero r h l = rw (below_out s t r l) (omega (arith, below-le t r))
below-some (s ∷ t) (suc i) r h l =
    let p : below t r < length t = below-some t i r (le_of_suc-le-suc h) l in
    by_cases (ltb s.round.0 r)
    (λ f. rw (below_in s t r (ltb-true _ _ f)) (omega arith))
    (λ f. rw (below_out s t r (ltb-false _ _ f)) (omega arith))

-- ---- a parent above round 0 is a slot of the table

pub record InTable (t : List Slot) (s : Slot) : Type 0 where
  pub place : ℕ
  pub within : place < length t
  pub is : s ≡ slot_at t place

pub parent_in : (t : List Slot) (b : Slot) → is_some (parent_of t b) ≡ true → 0 < (slot_in (parent_of t b)).round.0 → InTable t (slot_in (parent_of t b))
unfolding parent_of
parent_in t b =
    by_cases (is_genesis b.parent b.parent_round.0)
    (λ e. rw e (λ f l. absurd (omega arith)))
    (λ e. rw e (λ f l. let k = found-at t (lowest t (Digest b.parent)) f in record { place = lowest t (Digest b.parent); within = k.0; is = ap slot_in k.1 }))

parent-below : (t : List Slot) (b : Slot) (r : ℕ) → is_some (parent_of t b) ≡ true → 0 < (slot_in (parent_of t b)).round.0 → (slot_in (parent_of t b)).round.0 < r
    → below t (slot_in (parent_of t b)).round.0 < below t r
parent-below t b r f p l =
    let i = parent_in t b f p in
    let m : (slot_at t i.place).round.0 < r = rw (← i.is) l in
    rw i.is (below-slot t i.place r i.within m)

-- ---- one step of a walk

pub on-parent-found : (b : Slot) (last : ℕ) (p : Option Slot) (w : Walk) → is_some p ≡ true
    → on_parent b last p w
    ≡ cond (ltb (slot_in p).round.0 b.round.0) (cond (ltb last (slot_in p).round.0) (and_newer w b) (delivers (b ∷ []))) (refused round_not_below)
unfolding on_parent
on-parent-found b last None w e = absurd (true≢false (sym e))
on-parent-found b last (Some p) w e = refl

pub on-parent-absent : (b : Slot) (last : ℕ) (p : Option Slot) (w : Walk) → is_some p ≡ false → on_parent b last p w ≡ refused ancestor_absent
unfolding on_parent
on-parent-absent b last None w e = refl
on-parent-absent b last (Some p) w e = absurd (true≢false e)

-- the rest matters only where the parent is delivered
on-parent-same : (b : Slot) (last : ℕ) (p : Option Slot) (w v : Walk) → (is_some p ≡ true → (slot_in p).round.0 < b.round.0 → last < (slot_in p).round.0 → w ≡ v)
    → on_parent b last p w ≡ on_parent b last p v
unfolding on_parent
on-parent-same b last None w v same = refl
on-parent-same b last (Some p) w v same =
    by_cases (ltb p.round.0 b.round.0)
    (λ f. by_cases (ltb last p.round.0)
    (λ g. rw (f, g) (ap (λ (x : Walk). and_newer x b) (same refl (ltb-true _ _ f) (ltb-true _ _ g))))
    (λ g. rw (f, g)))
    (λ f. rw f)

-- two budgets that are both enough
walk-budget : (n m : ℕ) (t : List Slot) (b : Slot) (last : ℕ) → below t b.round.0 < n → below t b.round.0 < m → walk_from n t b last ≡ walk_from m t b last
unfolding walk_from
walk-budget zero m t b last h k = absurd (not-suc-le-zero h)
walk-budget (suc n) zero t b last h k = absurd (not-suc-le-zero k)
walk-budget (suc n) (suc m) t b last h k =
    ap (λ (w : Walk). cond (ltb (last + 1) b.round.0) w (delivers (b ∷ [])))
    (on-parent-same b last (parent_of t b) (walk_from n t (slot_in (parent_of t b)) last) (walk_from m t (slot_in (parent_of t b)) last)
    (λ f l g. let d : below t (slot_in (parent_of t b)).round.0 < below t b.round.0 = parent-below t b b.round.0 f (omega arith) l in
    walk-budget n m t (slot_in (parent_of t b)) last (omega arith) (omega arith)))

pub walk_step : (t : List Slot) (b : Slot) (last : ℕ)
    → walk_of t b last ≡ cond (ltb (last + 1) b.round.0) (on_parent b last (parent_of t b) (walk_of t (slot_in (parent_of t b)) last)) (delivers (b ∷ []))
unfolding walk_of walk_from
walk_step t b last =
    ap (λ (w : Walk). cond (ltb (last + 1) b.round.0) w (delivers (b ∷ [])))
    (on-parent-same b last (parent_of t b) (walk_from (length t) t (slot_in (parent_of t b)) last) (walk_from (suc (length t)) t (slot_in (parent_of t b)) last)
    (λ f l g. let d : below t (slot_in (parent_of t b)).round.0 < below t b.round.0 = parent-below t b b.round.0 f (omega arith) l in
    walk-budget (length t) (suc (length t)) t (slot_in (parent_of t b)) last (omega (arith, below-le t b.round.0)) (omega (arith, below-le t b.round.0))))

-- ---- how many blocks a walk delivers

unfoldable pub size_of : Walk → ℕ
size_of (refused n) = 0
size_of (delivers bs) = length bs

size-newer : (w : Walk) (b : Slot) → size_of (and_newer w b) ≤ suc (size_of w)
unfolding size_of
size-newer (refused n) b = omega arith
size-newer (delivers bs) b = omega (arith, length-append bs (b ∷ []))

size-on-parent : (b : Slot) (last : ℕ) (p : Option Slot) (w : Walk) (k : ℕ)
    → (is_some p ≡ true → (slot_in p).round.0 < b.round.0 → last < (slot_in p).round.0 → size_of w ≤ k) → size_of (on_parent b last p w) ≤ suc k
unfolding on_parent size_of
size-on-parent b last None w k h = omega arith
size-on-parent b last (Some p) w k h =
    by_cases (ltb p.round.0 b.round.0)
    (λ f. by_cases (ltb last p.round.0)
    (λ g. rw (f, g) (omega (arith, size-newer w b, h refl (ltb-true _ _ f) (ltb-true _ _ g))))
    (λ g. rw (f, g) (omega arith)))
    (λ f. rw f (omega arith))

pub walk-size : (n : ℕ) (t : List Slot) (b : Slot) (last : ℕ) → size_of (walk_from n t b last) ≤ suc (below t b.round.0)
unfolding walk_from size_of
walk-size zero t b last = omega arith
walk-size (suc n) t b last =
    by_cases (ltb (last + 1) b.round.0)
    (λ e. rw e (size-on-parent b last (parent_of t b) (walk_from n t (slot_in (parent_of t b)) last) (below t b.round.0)
    (λ f l g. let d : below t (slot_in (parent_of t b)).round.0 < below t b.round.0 = parent-below t b b.round.0 f (omega arith) l in
    omega (arith, walk-size n t (slot_in (parent_of t b)) last))))
    (λ e. rw e (omega arith))

-- ---- which they are

unfoldable pub IsChain : List Slot → Slot → Walk → Type 0
IsChain t b (refused n) = Unit {0}
IsChain t b (delivers bs) = (bs ≡ chain_of (length bs) t b) × (0 < length bs)

chain-one : (t : List Slot) (b : Slot) → IsChain t b (delivers (b ∷ []))
unfolding IsChain chain_of
chain-one t b = (refl, omega arith)

chain-newer : (t : List Slot) (b : Slot) (w : Walk) → IsChain t (slot_in (parent_of t b)) w → IsChain t b (and_newer w b)
unfolding IsChain chain_of
chain-newer t b (refused n) h = tt
chain-newer t b (delivers bs) h =
    let l : length (bs ++ b ∷ []) ≡ suc (length bs) = length-append bs (b ∷ []) ∙ add-one (length bs) in
    (rw l (ap (λ (x : List Slot). x ++ b ∷ []) h.0), rw l (omega arith))

chain-on-parent : (t : List Slot) (b : Slot) (last : ℕ) (p : Option Slot) (w : Walk) → IsChain t b (and_newer w b) → IsChain t b (on_parent b last p w)
unfolding on_parent IsChain
chain-on-parent t b last None w h = tt
chain-on-parent t b last (Some p) w h =
    by_cases (ltb p.round.0 b.round.0)
    (λ f. by_cases (ltb last p.round.0) (λ g. rw (f, g) h) (λ g. rw (f, g) (chain-one t b)))
    (λ f. rw f tt)

pub walk-chain : (n : ℕ) (t : List Slot) (b : Slot) (last : ℕ) → IsChain t b (walk_from n t b last)
unfolding walk_from IsChain
walk-chain zero t b last = tt
walk-chain (suc n) t b last =
    by_cases (ltb (last + 1) b.round.0)
    (λ e. let w : Walk = walk_from n t (slot_in (parent_of t b)) last in
    rw e (chain-on-parent t b last (parent_of t b) w (chain-newer t b w (walk-chain n t (slot_in (parent_of t b)) last))))
    (λ e. rw e (chain-one t b))

-- ---- their rounds rise from above the last committed one to that of the start

unfoldable pub Rising : ℕ → List Slot → ℕ → Type 0
Rising low [] high = low ≡ high
Rising low (s ∷ t) high = (low < s.round.0) × Rising s.round.0 t high

rising-more : (low mid : ℕ) (bs : List Slot) (b : Slot) → Rising low bs mid → mid < b.round.0 → Rising low (bs ++ b ∷ []) b.round.0
unfolding Rising
rising-more low mid [] b e h = (rw e h, refl)
rising-more low mid (s ∷ bs) b p h = (p.0, rising-more s.round.0 mid bs b p.1 h)

unfoldable pub Rises : ℕ → ℕ → Walk → Type 0
Rises low high (refused n) = Unit {0}
Rises low high (delivers bs) = Rising low bs high

rises-one : (last : ℕ) (b : Slot) → last < b.round.0 → Rises last b.round.0 (delivers (b ∷ []))
unfolding Rises Rising
rises-one last b h = (h, refl)

rises-newer : (last mid : ℕ) (b : Slot) (w : Walk) → Rises last mid w → mid < b.round.0 → Rises last b.round.0 (and_newer w b)
unfolding Rises
rises-newer last mid b (refused n) p h = tt
rises-newer last mid b (delivers bs) p h = rising-more last mid bs b p h

rises-on-parent : (b : Slot) (last : ℕ) (p : Option Slot) (w : Walk) → last < b.round.0 → (last < (slot_in p).round.0 → Rises last (slot_in p).round.0 w)
    → Rises last b.round.0 (on_parent b last p w)
unfolding on_parent Rises
rises-on-parent b last None w h k = tt
rises-on-parent b last (Some p) w h k =
    by_cases (ltb p.round.0 b.round.0)
    (λ f. by_cases (ltb last p.round.0)
    (λ g. rw (f, g) (rises-newer last p.round.0 b w (k (ltb-true _ _ g)) (ltb-true _ _ f)))
    (λ g. rw (f, g) (rises-one last b h)))
    (λ f. rw f tt)

pub walk-rises : (n : ℕ) (t : List Slot) (b : Slot) (last : ℕ) → last < b.round.0 → Rises last b.round.0 (walk_from n t b last)
unfolding walk_from Rises
walk-rises zero t b last h = tt
walk-rises (suc n) t b last h =
    by_cases (ltb (last + 1) b.round.0)
    (λ e. rw e (rises-on-parent b last (parent_of t b) (walk_from n t (slot_in (parent_of t b)) last) h (λ k. walk-rises n t (slot_in (parent_of t b)) last k)))
    (λ e. rw e (rises-one last b h))

-- ---- a commit

rising-committed : (b : Slot) (last : ℕ) (w : Walk) → Rises last b.round.0 w → Rising last (committed_by b last w).blocks (committed_by b last w).last
unfolding Rises Rising
rising-committed b last (refused n) h = refl
rising-committed b last (delivers bs) h = h

-- the rounds of the blocks that a commit delivers rise from above the last committed one to the new one
pub commit-rising : (t : List Slot) (b : Slot) (last : ℕ) → Rising last (commit_of t b last).blocks (commit_of t b last).last
unfolding commit_of walk_of Rising
commit-rising t b last =
    by_cases (ltb last b.round.0)
    (λ e. rw e (rising-committed b last (walk_from (suc (length t)) t b last) (walk-rises (suc (length t)) t b last (ltb-true _ _ e))))
    (λ e. rw e refl)

-- what a walk brings, by what it delivers
committed-size : (b : Slot) (last : ℕ) (w : Walk) → length (committed_by b last w).blocks ≡ size_of w
unfolding size_of
committed-size b last (refused n) = refl
committed-size b last (delivers bs) = refl

committed-chain : (t : List Slot) (b : Slot) (last : ℕ) (w : Walk) → IsChain t b w
    → ((committed_by b last w).blocks ≡ chain_of (length (committed_by b last w).blocks) t b) × ((committed_by b last w).last ≡ cond (ltb 0 (length (committed_by b last w).blocks)) b.round.0 last)
unfolding IsChain chain_of
committed-chain t b last (refused n) h = (refl, refl)
committed-chain t b last (delivers bs) h = (h.0, rw (lt-ltb _ _ h.1))

pub commit-size : (t : List Slot) (b : Slot) (last k : ℕ) → (last < b.round.0 → below t b.round.0 < k) → length (commit_of t b last).blocks ≤ k
unfolding commit_of walk_of
commit-size t b last k h =
    by_cases (ltb last b.round.0)
    (λ e. rw (e, committed-size) (omega (arith, walk-size (suc (length t)) t b last, h (ltb-true _ _ e))))
    (λ e. rw e (omega arith))

pub commit-chain : (t : List Slot) (b : Slot) (last : ℕ)
    → ((commit_of t b last).blocks ≡ chain_of (length (commit_of t b last).blocks) t b) × ((commit_of t b last).last ≡ cond (ltb 0 (length (commit_of t b last).blocks)) b.round.0 last)
unfolding commit_of walk_of chain_of
commit-chain t b last =
    by_cases (ltb last b.round.0)
    (λ e. rw e (committed-chain t b last (walk_from (suc (length t)) t b last) (walk-chain (suc (length t)) t b last)))
    (λ e. rw e (refl, refl))

-- genesis is never committed
pub commit-genesis : (t : List Slot) (last : ℕ) → commit_of t genesis last ≡ no_commit last
unfolding commit_of
commit-genesis t last = rw (le-ltb last 0 (omega arith))

-- ---- what a walk answers: never WAIT PARENT

newer-answer : (b : Slot) (last : ℕ) (w : Walk) (c : Slot) → (committed_by b last (and_newer w c)).answer ≡ (committed_by b last w).answer
newer-answer b last (refused n) c = refl
newer-answer b last (delivers bs) c = refl

parent-never-waits : (b c : Slot) (last : ℕ) (p : Option Slot) (w : Walk) → ((committed_by b last w).answer ≡ wait_parent → ⊥)
    → (committed_by b last (on_parent c last p w)).answer ≡ wait_parent → ⊥
unfolding on_parent
parent-never-waits b c last None w h = λ z. omega arith
parent-never-waits b c last (Some p) w h =
    by_cases (ltb p.round.0 c.round.0)
    (λ f. by_cases (ltb last p.round.0) (λ g. rw (f, g, newer-answer) h) (λ g. rw (f, g) (λ z. omega arith)))
    (λ f. rw f (λ z. omega arith))

walk-never-waits : (n : ℕ) (t : List Slot) (b c : Slot) (last : ℕ) → (committed_by b last (walk_from n t c last)).answer ≡ wait_parent → ⊥
unfolding walk_from
walk-never-waits zero t b c last = λ z. omega arith
walk-never-waits (suc n) t b c last =
    by_cases (ltb (last + 1) c.round.0)
    (λ e. rw e (parent-never-waits b c last (parent_of t c) (walk_from n t (slot_in (parent_of t c)) last) (walk-never-waits n t b (slot_in (parent_of t c)) last)))
    (λ e. rw e (λ z. omega arith))

pub commit-never-waits : (t : List Slot) (b : Slot) (last : ℕ) → (commit_of t b last).answer ≡ wait_parent → ⊥
unfolding commit_of walk_of
commit-never-waits t b last = by_cases (ltb last b.round.0) (λ e. rw e (walk-never-waits (suc (length t)) t b b last)) (λ e. rw e (λ z. omega arith))

-- ---- counting a walk

-- what a walk comes to that goes on from a block, n blocks with it counted already
abbrev add_walk : ℕ → Walk → Count
add_walk n (refused k) = record { answer = k; blocks = 0 }
add_walk n (delivers bs) = record { answer = 0; blocks = n + length bs - 1 }

add-committed : (b : Slot) (last : ℕ) (w : Walk) → add_walk 1 w ≡ count_of (committed_by b last w)
add-committed b last (refused n) = refl
add-committed b last (delivers bs) = let k : 1 + length bs - 1 ≡ length bs = omega arith in λ i. record { answer = 0; blocks = k i }

add-newer : (n : ℕ) (w : Walk) (b : Slot) → add_walk n (and_newer w b) ≡ add_walk (n + 1) w
add-newer n (refused k) b = refl
add-newer n (delivers bs) b =
    let k : n + length (bs ++ b ∷ []) - 1 ≡ n + 1 + length bs - 1 = omega (arith, length-append bs (b ∷ [])) in
    λ i. record { answer = 0; blocks = k i }

add-last : (n : ℕ) (b : Slot) → add_walk n (delivers (b ∷ [])) ≡ record { answer = 0; blocks = n }
add-last n b = let k : n + 1 - 1 ≡ n = omega arith in λ i. record { answer = 0; blocks = k i }

-- the walk from a block, by where it goes on
abbrev by_next : Result (Option Slot) Refusal → Slot → Walk → Walk
by_next (Err k) b w = refused (code k)
by_next (Ok None) b w = delivers (b ∷ [])
by_next (Ok (Some p)) b w = and_newer w b

on-parent-next : (b : Slot) (last : ℕ) (p : Option Slot) (w : Walk) → on_parent b last p w ≡ by_next (next_walked b.round.0 last p) b w
unfolding on_parent
on-parent-next b last None w = refl
on-parent-next b last (Some p) w =
    by_cases (ltb p.round.0 b.round.0)
    (λ f. by_cases (ltb last p.round.0) (λ g. rw (f, g)) (λ g. rw (f, g)))
    (λ f. rw f)

-- it goes on to a parent that is found, of a round between
next-some : (child last : ℕ) (p : Option Slot) (q : Slot) → next_walked child last p ≡ Ok (Some q) → (p ≡ Some q) × (q.round.0 < child) × (last < q.round.0)
next-some child last None q = λ e. absurd (let z : ◌≡◌ {A = ℕ} 0 1 = cc in omega arith)
next-some child last (Some p) q =
    by_cases (ltb p.round.0 child)
    (λ f. by_cases (ltb last p.round.0)
    (λ g. rw (f, g) (λ e. let s : p ≡ q = cc in (ap Some s, rw s at (ltb-true _ _ f), rw s at (ltb-true _ _ g))))
    (λ g. rw (f, g) (λ e. absurd (let z : ◌≡◌ {A = ℕ} 0 1 = cc in omega arith))))
    (λ f. rw f (λ e. absurd (let z : ◌≡◌ {A = ℕ} 0 1 = cc in omega arith)))

-- a count that has come to the block b, n blocks with it: it has counted no slot below b
pub record Counts (t : List Slot) (b0 : Slot) (last : ℕ) (b : Slot) (n : ℕ) : Type 0 where
  pub meant : add_walk n (walk_of t b last) ≡ count_of (commit_of t b0 last)
  pub few : n + below t b.round.0 ≤ suc (length t)

module _ (t : List Slot) (b0 : Slot) (last : ℕ) where
  pub counts-none : b0.round.0 ≤ last → counted (Ok 0) ≡ count_of (commit_of t b0 last)
  unfolding commit_of
  counts-none h = rw (le-ltb _ _ h)

  pub counts-start : last < b0.round.0 → Counts t b0 last b0 1
  unfolding commit_of
  counts-start h = record { meant = rw (lt-ltb _ _ h) (add-committed b0 last (walk_of t b0 last)); few = omega (arith, below-le t b0.round.0) }

  module _ (b : Slot) (n : ℕ) (k : Counts t b0 last b n) where
    pub counts-near : b.round.0 ≤ last + 1 → counted (Ok n) ≡ count_of (commit_of t b0 last)
    counts-near h =
        let one : walk_of t b last ≡ delivers (b ∷ []) = rw (walk_step t b last, le-ltb _ _ h) in
        sym (add-last n b) ∙ ap (add_walk n) (sym one) ∙ k.meant

    module _ (r : Result (Option Slot) Refusal) (h : last + 1 < b.round.0) (e : r ≡ next_walked b.round.0 last (parent_of t b)) where
      goes : walk_of t b last ≡ by_next r b (walk_of t (slot_in (parent_of t b)) last)
      goes = rw (walk_step t b last, lt-ltb _ _ h, on-parent-next, e)

      pub counts-refused : (a : Refusal) → r ≡ Err a → counted (Err a) ≡ count_of (commit_of t b0 last)
      counts-refused a is = sym (ap (add_walk n) (rw is at goes)) ∙ k.meant

      pub counts-ends : r ≡ Ok None → counted (Ok n) ≡ count_of (commit_of t b0 last)
      counts-ends is = sym (add-last n b) ∙ sym (ap (add_walk n) (rw is at goes)) ∙ k.meant

      module _ (p : Slot) (is : r ≡ Ok (Some p)) where
        parent : (parent_of t b ≡ Some p) × (p.round.0 < b.round.0) × (last < p.round.0)
        parent = next-some b.round.0 last (parent_of t b) p (sym e ∙ is)

        pub counts-falls : p.round.0 < b.round.0
        counts-falls = parent.1

        pub counts-more : Counts t b0 last p (n + 1)
        counts-more =
            let w : walk_of t b last ≡ and_newer (walk_of t p last) b = rw (is, parent.0) at goes in
            let f : is_some (parent_of t b) ≡ true = rw parent.0 refl in
            let l : below t p.round.0 < below t b.round.0 = rw parent.0 at (parent-below t b b.round.0 f) (omega (arith, parent.2)) parent.1 in
            record { meant = sym (add-newer n (walk_of t p last) b) ∙ sym (ap (add_walk n) w) ∙ k.meant; few = omega (arith, k.few) }
