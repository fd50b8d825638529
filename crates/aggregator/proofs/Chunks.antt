-- What an iterator over the rows of a table finds: `chunks_exact` with `position`. Nothing here knows what a row means. In order:
--     item-row, some_item     the items are the rows
--     chunks-position         the lowest row that passes
-- Assumes nothing.
use Prim.Native.Nat.{ℕ, ◌+◌, ◌*◌, ◌/◌, ◌≤◌, ◌<◌}
use mathlib.Core.Bool.{Bool, true, false}
use mathlib.Core.List.{List}
use mathlib.Core.Logic.{⊎_elim}
use mathlib.Core.Path.{◌≡◌, sym, ap, ◌∙◌}
use native.Mathlib.Nat.{lt_of_mul-lt-mul_right, mul-div_cancel}
use native.Mathlib.Omega.{arith}
use denote.Param.Members.{Mut, Called}
use denote.Ref.{Bor}
use lib.ListN.{length}
use Rattle.std.proofs.Common.{Option, Some, None, MatchOption, IsSomeAnd}
use Rattle.std.proofs.iter.runs.Made.{at-is}
use Rattle.std.proofs.lemmas.Option.{slice_get_cases}
use Rattle.std.specs.Iterator.Runs.{Run, SomeRun, EveryRun, IsChunksExactRun, CallKeepsClosure, AllItemsGive, IsFirstToGive}
use Rattle.std.specs.Slice.Iter.{chunks_exact_rest, chunks_exact_size, chunks_exact_steps}
use Rattle.std.specs.declared.slice.ChunksExact.{ChunksExact}
use Rattle.aggregator.specs.Rows.{row, lowest, FoundAs}
use Rattle.aggregator.proofs.Rows.{lowest-found, none-found}

module _ (p : Run (chunks_exact_steps {A = ℕ})) where
  item-row : (w : ℕ) (v : List ℕ) → IsChunksExactRun p w v → (k : ℕ) (x : Bor (List ℕ)) → p.at k ≡ Some x → (k * w + w ≤ length v) × (x.now ≡ row w v k)
  item-row w v cut k x e = let h = rw e at (cut.2 k) in (h.1, h.2.0)

  some_item : (k : ℕ) → k < p.len → (x : Bor (List ℕ)) × (p.at k ≡ Some x)
  some_item k l = ⊎_elim (λ h. (h.0, at-is p k ∙ h.2)) (λ h. absurd (omega (arith, p.long, h.0))) (slice_get_cases p.items k).1

  module _ (w n : ℕ) (v : List ℕ) (long : length v ≡ n * w) (wide : 0 < w) (cut : IsChunksExactRun p w v) where
    -- a run that is whole has every row
    every : p.whole ≡ true → p.len ≡ n
    every e = cut.1 e ∙ ap (λ (l : ℕ). l / w) long ∙ mul-div_cancel n wide

    item_below : (k : ℕ) (x : Bor (List ℕ)) → p.at k ≡ Some x → k < n
    item_below k x e = lt_of_mul-lt-mul_right w (omega (arith, (item-row w v cut k x e).0))

-- what the runs of an iterator over v, cut at w, say
module _ {w : ℕ} {v : List ℕ} (wide : 0 < w) (s : ChunksExact ℕ) (rest : chunks_exact_rest s ≡ v) (size : chunks_exact_size s ≡ w)
    (runs : EveryRun (chunks_exact_steps {A = ℕ}) (λ p. 0 < chunks_exact_size p.from → IsChunksExactRun p (chunks_exact_size p.from) (chunks_exact_rest p.from))) where
  pub rows_cut : (p : Run (chunks_exact_steps {A = ℕ})) → p.from ≡ s → IsChunksExactRun p w v
  rows_cut p e = rw (e, rest, size) at (runs p p.seen (rw (e, size) wide))

module _ (w n : ℕ) (v : List ℕ) (long : length v ≡ n * w) (wide : 0 < w) (test : List ℕ → Bool) {F : Type 0} (g : Mut F (Bor (List ℕ) × Unit {0}) Bool) (f : F)
    (gives : (x : Bor (List ℕ)) (b : Bool) (q : F) → Called g f (x, tt) b q → (q ≡ f) × (b ≡ test x.now)) (s : ChunksExact ℕ)
    (cut : (p : Run (chunks_exact_steps {A = ℕ})) → p.from ≡ s → IsChunksExactRun p w v) where
  same_closure : CallKeepsClosure g f
  same_closure a r q h = (gives a.0 r q h).0

  asked : (p : Run (chunks_exact_steps {A = ℕ})) → p.from ≡ s → (b : Bool) (k : ℕ) (x : Bor (List ℕ)) → p.at k ≡ Some x → IsSomeAnd (p.at k) (λ x. Called g f (x, tt) b f) → test (row w v k) ≡ b
  asked p e b k x q h = rw (← (item-row p w v (cut p e) k x q).1) (sym (gives x b f (rw q at h)).1)

  none_passes : (p : Run (chunks_exact_steps {A = ℕ})) → p.from ≡ s → p.whole ≡ true → AllItemsGive p g f false → (j : ℕ) → j < n → test (row w v j) ≡ false
  none_passes p e whole h j l =
      let all : p.len ≡ n = every p w n v long wide (cut p e) whole in
      let x = some_item p j (omega arith) in
      asked p e false j x.0 x.1 (rw x.1 (rw x.1 at (h same_closure j)))

  pub chunks-position : (r : Option ℕ) → SomeRun (chunks_exact_steps {A = ℕ}) s (λ u. MatchOption r ((u.whole ≡ true) × AllItemsGive u g f false) (λ i. (u.len ≡ i + 1) × IsFirstToGive u g f true false i))
      → FoundAs (lowest test w v n 0) n r
  chunks-position None (p, e, h) = none-found test w v n (none_passes p e h.0 h.1)
  chunks-position (Some i) (p, e, h) =
      let x = some_item p i (omega (arith, h.0)) in
      let first = h.1 same_closure in
      lowest-found test w v n i (item_below p w n v long wide (cut p e) i x.0 x.1) (asked p e true i x.0 x.1 first.0)
      (λ j l. let y = some_item p j (omega (arith, h.0)) in asked p e false j y.0 y.1 (first.1 j l))
