-- The front of a trace by cases: one law for each, its premises the tests. Assumes nothing.
use mathlib.Core.Path.{◌≡◌}
use mathlib.Core.List.{List}
use Prim.Native.Nat.{ℕ, ◌+◌, ◌≤◌, ◌<◌}
use native.Mathlib.Omega.{arith}
use lib.ListN.{length}
use borrow.Author.Tests.{lt-ltb, le-ltb}
use Rattle.certificates.specs.Num.{num_at}
use Rattle.trace.specs.Record.{record_max, split_of, framed}
use Rattle.trace.specs.declared.record.Front.TheVariants.{End, Cut, Small, Record}

module _ (s : List ℕ) where
  pub at-end : length s < 1 → End ≡ split_of s
  unfolding split_of
  at-end h = rw (lt-ltb _ _ h)

  module _ {n : ℕ} (e : n ≡ num_at 2 s 0) (h : 2 ≤ length s) where
    by_length : framed s n ≡ split_of s
    unfolding split_of
    by_length = let h1 : 1 ≤ length s = omega arith in rw (le-ltb _ _ h1, le-ltb _ _ h, ← e)

    pub too_long_lem : record_max < n → Cut ≡ split_of s
    unfolding framed
    too_long_lem l = rw (lt-ltb _ _ l) at by_length

    pub no_kind : n ≤ record_max → n + 2 ≤ length s → n < 2 → Small (n + 2) ≡ split_of s
    unfolding framed
    no_kind l m k = rw (le-ltb _ _ l, le-ltb _ _ m, lt-ltb _ _ k) at by_length

    pub whole : {kind : ℕ} → n ≤ record_max → n + 2 ≤ length s → 2 ≤ n → kind ≡ num_at 2 s 2 → Record kind (n + 2) ≡ split_of s
    unfolding framed
    whole l m k q = rw (le-ltb _ _ l, le-ltb _ _ m, le-ltb _ _ k, ← q) at by_length
