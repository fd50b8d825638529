-- What the two kinds of tally have in common, whatever they are kept under.
--     Keyed test new w                a test holds of tallies in use only, and of a new one, which is w wide, weighs nothing and has no names
--     vote-keyed, timeout-keyed       a vote tally is kept so under its round and hash, a timeout tally under its round
use Rattle.std.specs.Prelude.{ℕ, ◌≤◌, Bool, true, false, cond, List, ◌≡◌, length, refl}
use Rattle.std.proofs.Common.{arith}
use borrow.Author.Tests.{eq-eqb, eqb-false}
use Rattle.certificates.specs.declared.numbers.Hash.{Hash}
use Rattle.aggregator.specs.Tally.{fields, vote_width, timeout_width, used_of, weight_of, names_of, is_free, is_vote, of_round, new_vote, new_timeout}

pub record Keyed (test : List ℕ → Bool) (new : List ℕ) (w : ℕ) : Type 0 where
  pub wide : fields ≤ w
  pub used : (t : List ℕ) → test t ≡ true → used_of t ≡ 0 → ⊥
  pub passes : test new ≡ true
  pub size : length new ≡ w
  pub weight : weight_of new ≡ 0
  pub names : names_of new ≡ 0

free-false : (b x : Bool) → cond b false x ≡ true → b ≡ false
free-false true x e = absurd (let z : ◌≡◌ {A = ℕ} 0 1 = cc in omega arith)
free-false false x e = refl

pub vote-keyed : (round : ℕ) (hash : Hash) → Keyed (is_vote round hash) (new_vote round hash) vote_width
unfolding is_vote new_vote
vote-keyed round hash =
    record {
      wide = omega arith;
      used = λ t e. eqb-false _ _ (free-false (is_free t) _ e);
      passes = rw (eq-eqb round round refl, eq-eqb hash.a hash.a refl, eq-eqb hash.b hash.b refl, eq-eqb hash.c hash.c refl, eq-eqb hash.d hash.d refl);
      size = refl;
      weight = refl;
      names = refl;
    }

pub timeout-keyed : (round : ℕ) → Keyed (of_round round) (new_timeout round) timeout_width
unfolding of_round new_timeout
timeout-keyed round =
    record {
      wide = omega arith;
      used = λ t e. eqb-false _ _ (free-false (is_free t) _ e);
      passes = eq-eqb round round refl;
      size = refl;
      weight = refl;
      names = refl;
    }
