-- Laws of the leader: whose turn it is, and that the leader is a member. Assumes nothing.
use Prim.Native.Nat.{ℕ, ◌%◌, ◌≤◌, ◌<◌}
use mathlib.Core.Path.{◌≡◌}
use mathlib.Core.List.{List}
use native.Mathlib.Nat.{mod-lt}
use native.Mathlib.Omega.{arith}
use lib.ListN.{length}
use borrow.Author.Tests.{ne_eqb, le-ltb}
use Rattle.certificates.specs.Config.{members_max}
use Rattle.certificates.specs.Leader.{leader_of}

module _ (m : List ℕ) (r : ℕ) where
  pub leader-turn : (length m ≡ 0 → ⊥) → length m ≤ members_max → r % length m ≡ leader_of m r
  unfolding leader_of
  leader-turn n h = rw (ne_eqb (length m) 0 n, le-ltb members_max (length m) h)

  -- the leader is a member
  pub leader-lt : 0 < length m → length m ≤ members_max → leader_of m r < length m
  leader-lt p h =
      let n : length m ≡ 0 → ⊥ = λ e. omega arith in
      rw (← leader-turn n h) (mod-lt r {m = length m} p)
