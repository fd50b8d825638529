-- Laws of sets of signers, for those who keep and count them: one more signer, its stake, who is in. They are the laws of `Sets` at one word. Assumes
-- nothing.
use Prim.Native.Nat.{ℕ, suc, ◌+◌, ◌/◌, ◌%◌, ◌^◌, ◌≤◌, ◌<◌}
use mathlib.Core.Path.{◌≡◌, ◌∙◌}
use mathlib.Core.Logic.{◌≢◌}
use mathlib.Core.List.{List, []}
use native.Mathlib.Omega.{arith}
use lib.Count.{ones}
use Rattle.certificates.specs.declared.numbers.Signers.{Signers}
use Rattle.certificates.specs.Config.{members_max, sum, stake_of}
use Rattle.certificates.specs.Signers.{is_in, words, no_signers, with_signer, weight_of}
use Rattle.certificates.proofs.Words.{bit-digit}
use Rattle.certificates.proofs.Sets.{in-low, in-none, in-add-same, in-add-other, count_add, stake-in-none, stake-in-add, stake-in-le, words-with, words_count}

-- ---- who is in

pub signer-none : (p : ℕ) → is_in (words no_signers) p ≡ 0
signer-none p = in-none 1 p

-- by the bit of the word
pub signer-bit : (s : Signers) (p : ℕ) → p < members_max → is_in (words s) p ≡ s.0 / 2 ^ p % 2
signer-bit s p h = in-low s.0 [] p h ∙ bit-digit s.0 p

module _ (s : Signers) (p : ℕ) (h : p < members_max) where
  pub signer-same : is_in (words (with_signer s p)) p ≡ 1
  signer-same = rw (words-with s p h) at (in-add-same (words s) p h)

  pub signer-other : (q : ℕ) → q ≢ p → is_in (words (with_signer s p)) q ≡ is_in (words s) q
  signer-other q n = rw (words-with s p h) at (in-add-other (words s) p q n)

  -- one more signer counts one
  pub signer-count : is_in (words s) p ≡ 0 → ones (with_signer s p).0 ≡ suc (ones s.0)
  signer-count e = omega (arith, words_count s, words_count (with_signer s p), rw (words-with s p h) at (count_add (words s) p h e))

-- ---- their stake

module _ (m : List ℕ) where
  pub weight-none : weight_of m no_signers ≡ 0
  unfolding weight_of
  weight-none = stake-in-none m 1

  pub weight-with : (s : Signers) (p : ℕ) → p < members_max → is_in (words s) p ≡ 0 → weight_of m (with_signer s p) ≡ stake_of m p + weight_of m s
  unfolding weight_of
  weight-with s p h e = rw (words-with s p h) at (stake-in-add m (words s) p h e)

  pub weight-le : (s : Signers) → weight_of m s ≤ sum m
  unfolding weight_of
  weight-le s = stake-in-le m (words s)
