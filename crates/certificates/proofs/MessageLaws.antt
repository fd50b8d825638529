-- Laws of `is_genesis`, of the QC inside a block or a timeout, and of an author's check: what a good answer says. Assumes nothing.
use Prim.Native.Nat.{ℕ, ◌≤◌, ◌<◌}
use mathlib.Core.Path.{◌≡◌, refl, sym, ◌∙◌}
use mathlib.Core.Logic.{◌≢◌}
use mathlib.Core.List.{List}
use mathlib.Core.Bool.{Bool, true, false, cond}
use lib.ListN.{length}
use lib.Dec.{eqb}
use borrow.Author.Tests.{eqb-false, le-leb}
use Rattle.std.specs.Prelude.{Ok, Err}
use Rattle.certificates.specs.declared.numbers.Hash.{Hash}
use Rattle.certificates.specs.declared.numbers.Place.{Place}
use Rattle.certificates.specs.declared.numbers.Stake.{Stake}
use Rattle.certificates.specs.declared.error.AuthorError.TheVariants.{UnknownAuthority, InvalidSignature}
use Rattle.certificates.specs.Numbers.{zero_hash, same_hash}
use Rattle.certificates.specs.Num.{num_at, hash_at}
use Rattle.certificates.specs.Config.{stake_of}
use Rattle.certificates.specs.Messages.{is_genesis, qc_form, equals_genesis, author_check}
use Rattle.certificates.proofs.ConfigLaws.{stake-member}

module _ (h : Hash) (round : ℕ) {t : Bool} (e : t ≡ same_hash h zero_hash) where
  pub genesis-round : t ≡ true → eqb round 0 ≡ is_genesis h round
  unfolding is_genesis
  genesis-round y = rw (← e, y)

  pub genesis-other : t ≡ false → false ≡ is_genesis h round
  unfolding is_genesis
  genesis-other n = rw (← e, n)

-- ---- the QC inside a block or a timeout

pub bytes-genesis : (part : List ℕ) → qc_form.at ≤ length part → {h : Hash} {round : ℕ} {t : Bool} → h ≡ hash_at part 0 → round ≡ num_at 8 part 32
    → t ≡ is_genesis h round → t ≡ equals_genesis part
unfolding equals_genesis
bytes-genesis part l e f g = rw (le-leb qc_form.at (length part) l, ← e, ← f) g

-- ---- an author

from-author : (none bad : Bool) (a : Place) (x : ℕ) (s : Stake) → cond none (Err (UnknownAuthority a)) (cond bad (Err InvalidSignature) (Ok record { 0 = x })) ≡ Ok s
    → (none ≡ false) × (bad ≡ false) × (x ≡ s.0)
from-author true bad a x s e = absurd (cc)
from-author false true a x s e = absurd (cc)
from-author false false a x s e = (refl, refl, cc)

-- what a valid author is known for
pub record Author (m : List ℕ) (p verdict s : ℕ) : Type 0 where
  pub stake : s ≡ stake_of m p
  pub staked : s ≢ 0
  pub member : p < length m
  pub signed : verdict ≢ 0

pub author : (m : List ℕ) (p verdict : ℕ) (s : Stake) → author_check m p verdict ≡ Ok s → Author m p verdict s.0
unfolding author_check
author m p verdict s e =
    let t = from-author (eqb (stake_of m p) 0) (eqb verdict 0) record { 0 = p } (stake_of m p) s e in
    let some = eqb-false (stake_of m p) 0 t.0 in
    record {
      stake = sym t.2;
      staked = λ z. some (t.2 ∙ z);
      member = stake-member m p some;
      signed = eqb-false verdict 0 t.1;
    }
