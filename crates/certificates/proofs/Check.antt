-- The check of a list of signers, a signer at a time: one law for each way out of the walk and of the bytes. Assumes nothing.
use Prim.Native.Nat.{ℕ, ◌+◌, ◌*◌, ◌≤◌, ◌<◌}
use mathlib.Core.Path.{◌≡◌, refl, sym, ◌∙◌}
use mathlib.Core.Logic.{◌≢◌}
use mathlib.Core.List.{List, []}
use mathlib.Core.Bool.{Bool, true, false, cond}
use native.Mathlib.Numerals.{add-one}
use native.Mathlib.Omega.{arith}
use lib.ListN.{length, get_or, take, drop, drop_of_length-le}
use lib.Seq.{take-suc, drop-cons}
use lib.Dec.{eqb}
use borrow.Author.Tests.{ne_eqb, eqb-false, lt-ltb, ltb-true, lt-leb, le-leb}
use Rattle.std.specs.Prelude.{Result, Err}
use Rattle.certificates.specs.declared.numbers.Signers.{Signers}
use Rattle.certificates.specs.declared.error.CertificateError.{CertificateError}
use Rattle.certificates.specs.declared.error.CertificateError.TheVariants.{AuthorityReuse, UnknownAuthority, Cut}
use Rattle.certificates.specs.Num.{num_at, nums_at}
use Rattle.certificates.specs.Config.{members_max, stake_of}
use Rattle.certificates.specs.Signers.{weight_of, member}
use Rattle.certificates.specs.declared.messages.Form.{Form}
use Rattle.certificates.specs.Messages.{verdict_in, count_of, places_in, is_whole, unknown_to, settled_of, settled_by, check_from, check_part}
use Rattle.certificates.proofs.Places.{member-take}
use Rattle.certificates.proofs.Clean.{Signed}

-- ---- a known place

module _ (m : List ℕ) (p : ℕ) where
  pub known-stake : p < members_max → stake_of m p ≢ 0 → unknown_to m p ≡ false
  unfolding unknown_to
  known-stake h n = rw (lt-ltb p members_max h, ne_eqb (stake_of m p) 0 n)

  from-known : (low none : Bool) → cond low none true ≡ false → (low ≡ true) × (none ≡ false)
  from-known true none e = (refl, e)
  from-known false none e = absurd (cc)

-- what a known place is
pub record Known (m : List ℕ) (p : ℕ) : Type 0 where
  pub small : p < members_max
  pub stake : stake_of m p ≢ 0

-- ---- the walk

module _ (m : List ℕ) (need : ℕ) (verdict : Bool) (ps : List ℕ) (i : ℕ) where
  -- the check after the first i signers, where there is one more
  check-step : i < length ps
      → check_from m need verdict (take i ps) (drop i ps)
      ≡ cond (member (get_or ps i 0) (take i ps)) (Err (AuthorityReuse record { 0 = get_or ps i 0 }))
      (cond (unknown_to m (get_or ps i 0)) (Err (UnknownAuthority record { 0 = get_or ps i 0 })) (check_from m need verdict (take (i + 1) ps) (drop (i + 1) ps)))
  unfolding check_from
  check-step h = rw (drop-cons ps i 0 h, add-one, take-suc ps i 0 h)

  -- and where there is none
  check-end : (s : Signers) → length ps ≤ i → Signed m (take i ps) s → check_from m need verdict (take i ps) (drop i ps) ≡ settled_by m need verdict s
  unfolding check_from settled_of settled_by weight_of
  check-end s h k = rw drop_of_length-le (rw (k.clean.stake, k.who))

-- what a loop over the signers knows: the check of the whole list is the check of the rest, after those seen
pub record Walk (m : List ℕ) (need : ℕ) (verdict : Bool) (ps : List ℕ) (i : ℕ) : Type 0 where
  pub so_far : check_from m need verdict (take i ps) (drop i ps) ≡ check_from m need verdict [] ps

pub walk_none : (m : List ℕ) (need : ℕ) (verdict : Bool) (ps : List ℕ) → Walk m need verdict ps 0
walk_none m need verdict ps = record { so_far = refl }

module _ {m : List ℕ} {need : ℕ} {verdict : Bool} {ps : List ℕ} {i : ℕ} (k : Walk m need verdict ps i) where
  pub at-end : (s : Signers) → length ps ≤ i → Signed m (take i ps) s → settled_by m need verdict s ≡ check_from m need verdict [] ps
  at-end s h c = sym (check-end m need verdict ps i s h c) ∙ k.so_far

  module _ (p : ℕ) (here : p ≡ get_or ps i 0) (h : i < length ps) where
    step : check_from m need verdict [] ps
        ≡ cond (member p (take i ps)) (Err (AuthorityReuse record { 0 = p }))
        (cond (unknown_to m p) (Err (UnknownAuthority record { 0 = p })) (check_from m need verdict (take (i + 1) ps) (drop (i + 1) ps)))
    step = sym k.so_far ∙ rw here (check-step m need verdict ps i h)

    -- the signer at i stands at an earlier j as well
    pub at-repeat : (j : ℕ) → j < i → get_or ps j 0 ≡ p → Err (AuthorityReuse record { 0 = p }) ≡ check_from m need verdict [] ps
    at-repeat j l e = sym (rw (member-take p ps i j l (omega arith) e) at step)

    pub at-unknown : member p (take i ps) ≡ false → unknown_to m p ≡ true → Err (UnknownAuthority record { 0 = p }) ≡ check_from m need verdict [] ps
    at-unknown fresh none = sym (rw (fresh, none) at step)

    pub at-known : member p (take i ps) ≡ false → unknown_to m p ≡ false → Walk m need verdict ps (i + 1)
    at-known fresh some = record { so_far = sym (rw (fresh, some) at step) }

pub known : (m : List ℕ) (p : ℕ) → unknown_to m p ≡ false → Known m p
unfolding unknown_to
known m p e =
    let t = from-known m p _ (eqb (stake_of m p) 0) e in
    record { small = ltb-true p members_max t.0; stake = eqb-false (stake_of m p) 0 t.1 }

-- ---- the bytes

module _ (f : Form) (m : List ℕ) (need : ℕ) (part : List ℕ) {n : ℕ} (e : n ≡ num_at 2 part (f.at + 1)) where
  pub part_cut : length part < f.at + 3 + f.stride * n → (Err Cut) ≡ check_part f m need part
  unfolding check_part is_whole count_of
  part_cut h = rw (← e, lt-leb (f.at + 3 + f.stride * n) (length part) h)

  pub part-whole : f.at + 3 + f.stride * n ≤ length part → {verdict : ℕ} → verdict ≡ num_at 1 part f.at → {r : Result Signers CertificateError}
      → r ≡ check_from m need (eqb verdict 1) [] (nums_at 2 f.stride n part (f.at + 3)) → r ≡ check_part f m need part
  unfolding check_part is_whole count_of places_in verdict_in
  part-whole h v g = rw (← e, ← v, le-leb (f.at + 3 + f.stride * n) (length part) h) g
