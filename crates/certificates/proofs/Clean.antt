-- Signers of whom none is named twice, with the set that has their places: what is so of none, and what one more keeps. Assumes nothing.
use Prim.Native.Nat.{ℕ, ◌+◌, ◌*◌, ◌<◌}
use mathlib.Core.Path.{◌≡◌, refl, sym, ap, ◌∙◌}
use mathlib.Core.Logic.{by_cases}
use mathlib.Core.List.{List, [], ◌∷◌, ◌++◌}
use mathlib.Core.Bool.{false, cond, or-true, or-false}
use native.Mathlib.Decide.{ℕ_discrete}
use native.Mathlib.Omega.{arith}
use native.Mathlib.Numerals.{add-one}
use lib.ListN.{length, get_or, take, length-append}
use lib.Seq.{take-suc}
use borrow.Author.Tests.{eq-eqb, ne_eqb}
use Rattle.certificates.specs.declared.numbers.Signers.{Signers}
use Rattle.certificates.specs.Config.{members_max, stake_of}
use Rattle.certificates.specs.Signers.{word_bits, is_in, count_in, stake_in, add_to, words, no_signers, with_signer, signers_from, signers_of, member, stake_on}
use Rattle.certificates.proofs.Places.{member-snoc}
use Rattle.certificates.proofs.Sets.{in-none, in-add-same, in-add-other, count_none, count_add, stake-in-none, stake-in-add, words-with}

pub record Clean (m ps ws : List ℕ) : Type 0 where
  -- in the set is what is in the list
  pub bits : (q : ℕ) → is_in ws q ≡ cond (member q ps) 1 0
  -- the stake by the list is the stake by the set
  pub stake : stake_on m ps ≡ stake_in m ws
  -- the set has as many as the list
  pub count : count_in ws ≡ length ps

stake-snoc : (m ps : List ℕ) (p : ℕ) → stake_on m (ps ++ p ∷ []) ≡ stake_on m ps + stake_of m p
unfolding stake_on
stake-snoc m [] p = omega arith
stake-snoc m (q ∷ ps) p = omega (arith, stake-snoc m ps p)

pub clean-more : (m ps ws : List ℕ) (p : ℕ) → Clean m ps ws → member p ps ≡ false → p < word_bits * length ws → Clean m (ps ++ p ∷ []) (add_to ws p)
clean-more m ps ws p k fresh room =
    let clear : is_in ws p ≡ 0 = k.bits p ∙ rw fresh in
    record {
      bits = λ q. by_cases (ℕ_discrete q p)
          (λ e. rw (member-snoc, eq-eqb q p e, or-true, e) (in-add-same ws p room))
          (λ n. rw (member-snoc, ne_eqb q p n, or-false) (in-add-other ws p q n ∙ k.bits q));
      stake = omega (arith, stake-snoc m ps p, k.stake, stake-in-add m ws p room clear);
      count = rw length-append (omega (arith, count_add ws p room clear, k.count));
    }

-- ---- signers

pub record Signed (m ps : List ℕ) (s : Signers) : Type 0 where
  pub who : signers_of ps ≡ s
  pub clean : Clean m ps (words s)

signers-snoc : (s : Signers) (ps : List ℕ) (p : ℕ) → signers_from s (ps ++ p ∷ []) ≡ with_signer (signers_from s ps) p
unfolding signers_from
signers-snoc s [] p = refl
signers-snoc s (q ∷ ps) p = signers-snoc (with_signer s q) ps p

module _ (m : List ℕ) where
  pub signed-none : Signed m [] no_signers
  unfolding signers_of signers_from member stake_on
  signed-none = record {
    who = refl;
    clean = record { bits = λ q. in-none 1 q; stake = sym (stake-in-none m 1); count = count_none 1 };
  }

  pub signed-more : (ps : List ℕ) (s : Signers) (p : ℕ) → Signed m ps s → member p ps ≡ false → p < members_max → Signed m (ps ++ p ∷ []) (with_signer s p)
  unfolding signers_of
  signed-more ps s p k fresh small = record {
    who = signers-snoc no_signers ps p ∙ ap (λ (t : Signers). with_signer t p) k.who;
    clean = rw (words-with s p small) at (clean-more m ps (words s) p k.clean fresh small);
  }

  -- the same of the first signers of a list, and one more of them
  pub signed-take : (ps : List ℕ) (i : ℕ) (s : Signers) (p : ℕ) → p ≡ get_or ps i 0 → i < length ps → Signed m (take i ps) s → member p (take i ps) ≡ false → p < members_max
      → Signed m (take (i + 1) ps) (with_signer s p)
  signed-take ps i s p here h k fresh small = rw (add-one, take-suc ps i 0 h, ← here) (signed-more (take i ps) s p k fresh small)
