-- What two quorums have in common, over sets of any number of words. Assumes nothing.
use Prim.Native.Nat.{ℕ, ◌*◌, ◌≤◌, ◌<◌}
use mathlib.Core.Path.{◌≡◌}
use mathlib.Core.List.{List}
use native.Mathlib.Omega.{arith}
use Rattle.certificates.specs.Config.{sum, quorum_of}
use Rattle.certificates.specs.Signers.{is_in, stake_in, both, either}
use Rattle.certificates.proofs.ConfigLaws.{quorum-overlap}
use Rattle.certificates.proofs.Sets.{in_small, in_both, stake-in-le, stake-either-both, stake-some-more}

module _ (m vs ws : List ℕ) (p : quorum_of m ≤ stake_in m vs) (q : quorum_of m ≤ stake_in m ws) where
  -- more than a third of the total stake
  pub quorums-share : sum m < 3 * stake_in m (both vs ws)
  unfolding quorum_of
  quorums-share = omega (arith, quorum-overlap (sum m) (stake_in m vs) (stake_in m ws) p q, stake-either-both m vs ws, stake-in-le m (either vs ws))

  -- so a member of both that is not in a set of at most a third
  pub quorums-common : (out : List ℕ) → 3 * stake_in m out ≤ sum m → (p : ℕ) × (is_in vs p ≡ 1) × (is_in ws p ≡ 1) × (is_in out p ≡ 0)
  quorums-common out few =
      let t = stake-some-more m (both vs ws) out (omega (arith, quorums-share)) in
      let b = in_both vs ws t.0 in
      (t.0, omega (arith, in_small vs t.0, in_small ws t.0, t.1), omega (arith, in_small vs t.0, in_small ws t.0, t.1), t.2)
