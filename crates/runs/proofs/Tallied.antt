-- Tallies of a committee m: what they hold, and what they give out. Assumes nothing.
--     Quorate m s              the signers s are members with stake, and their stake reaches the quorum
--     Counts m names weight    what holds of a tally in use: its names, and its weight
--     Tallied m by t           .. of the tally t, each name of which is that of a place p with `by t p`
--     tallied-new              a new tally
--     tallied-more             one more author
--     counts-full              what a tally gives out is a quorum of members with stake
--     filled-quorate, filled-signed     .. of a tally in its table: a quorum, each of whom has `by`
--     counts-once              it gives out one certificate and no other
--     counts-light, tallied-light     no tally is heavier than the total
use Prim.Native.Nat.{ℕ, ◌+◌, ◌/◌, ◌%◌, ◌^◌, ◌≤◌, ◌<◌}
use mathlib.Core.Bool.{Bool, true, false, cond}
use mathlib.Core.List.{List}
use mathlib.Core.Logic.{◌≢◌, by_cases, ◌⊎◌, inl, inr}
use mathlib.Core.Path.{◌≡◌, refl, sym, ap, ◌∙◌}
use native.Mathlib.Decide.{ℕ_discrete}
use native.Mathlib.Omega.{arith}
use borrow.Author.Tests.{ltb-true, ltb-false, eqb-false}
use lib.Bits.{or_lt}
use lib.Dec.{ltb, lit<}
use lib.ListN.{length}
use lib.Pow.{pow-lt}
use Rattle.certificates.specs.declared.numbers.Signers.{Signers}
use Rattle.certificates.specs.Config.{sum, stake_of, quorum_from, quorum_of, members_max}
use Rattle.certificates.specs.Signers as signed
use Rattle.certificates.specs.Signers.{is_in, words}
use Rattle.certificates.proofs.ConfigLaws.{quorum-pos}
use Rattle.certificates.proofs.Check.{Known}
use Rattle.certificates.proofs.SignersLaws.{signer-none, signer-bit, signer-other, weight-none, weight-with, weight-le}
use Rattle.aggregator.specs.Rows.{row}
use Rattle.aggregator.specs.Tally.{fields, used_of, weight_of, names_of, has_name, with_name, signers, with_author}
use Rattle.aggregator.specs.Tallies.{Light}
use Rattle.aggregator.proofs.TallyLaws.{Kind, author-names, author-weight}
use Rattle.aggregator.proofs.TableLaws.{Each}
use Rattle.aggregator.proofs.Additions.{Filled, counted-passes}

-- members with stake whose stake reaches the quorum
pub record Quorate (m : List ℕ) (s : Signers) : Type 0 where
  pub members : (p : ℕ) → is_in (words s) p ≡ 1 → Known m p
  pub quorum : quorum_of m ≤ signed.weight_of m s
  pub word : s.0 < 2 ^ members_max

-- the stake of names
abbrev pub held : List ℕ → ℕ → ℕ
held m names = signed.weight_of m (signers names)

pub record Counts (m : List ℕ) (names weight : ℕ) : Type 0 where
  -- its names are members with stake
  pub members : (p : ℕ) → is_in (words (signers names)) p ≡ 1 → Known m p
  pub word : names < 2 ^ members_max
  -- below the quorum its weight is their stake
  pub unspent : held m names < quorum_of m → weight ≡ held m names
  -- from the quorum on it is the stake of those only that came after its certificate
  pub spent : quorum_of m ≤ held m names → weight + quorum_of m ≤ held m names

pub record Tallied (m : List ℕ) (by : List ℕ → ℕ → Type 0) (t : List ℕ) : Type 0 where
  pub counts : Counts m (names_of t) (weight_of t)
  pub signed : (p : ℕ) → is_in (words (signers (names_of t))) p ≡ 1 → by t p

counts-none : (m : List ℕ) → Counts m 0 0
unfolding quorum_of
counts-none m =
    let none : held m 0 ≡ 0 = weight-none m in
    record {
      members = λ p e. absurd (omega (arith, e, signer-none p));
      word = lit< tt;
      unspent = λ h. sym none;
      spent = λ h. absurd (omega (arith, none, h, quorum-pos (sum m)));
    }

pub tallied-new : (m : List ℕ) (by : List ℕ → ℕ → Type 0) (t : List ℕ) → weight_of t ≡ 0 → names_of t ≡ 0 → Tallied m by t
tallied-new m by t w n = record { counts = rw (w, n) (counts-none m); signed = λ p e. absurd (omega (arith, signer-none p, rw n at e)) }

module _ (m : List ℕ) {names weight : ℕ} (k : Counts m names weight) where
  counts-within : weight ≤ held m names
  counts-within = cases (ltb (held m names) (quorum_of m)) refl
    where
      cases : (b : Bool) → ltb (held m names) (quorum_of m) ≡ b → weight ≤ held m names
      cases true e = omega (arith, k.unspent (ltb-true _ _ e))
      cases false e = omega (arith, k.spent (ltb-false _ _ e))

  -- no tally is heavier than the total
  pub counts-light : weight ≤ sum m
  counts-light = omega (arith, counts-within, weight-le m (signers names))

  module _ (p : ℕ) (who : Known m p) (fresh : has_name names p ≡ false) where
    out : is_in (words (signers names)) p ≡ 0
    out = let odd : names / 2 ^ p % 2 ≢ 1 = eqb-false _ _ fresh in omega (arith, signer-bit (signers names) p who.small)

    more-held : held m (with_name names p) ≡ stake_of m p + held m names
    more-held = weight-with m (signers names) p who.small out

    more-members : (q : ℕ) → is_in (words (signers (with_name names p))) q ≡ 1 → Known m q
    more-members q e =
        by_cases (ℕ_discrete q p) (λ s. rw s who) (λ n. k.members q (sym (signer-other (signers names) p who.small q n) ∙ e))

    more-word : with_name names p < 2 ^ members_max
    more-word = or_lt members_max names (2 ^ p) k.word (pow-lt who.small)

    -- what it gives out: its names, and the author's, are a quorum
    pub counts-full : quorum_of m ≤ weight + stake_of m p → Quorate m (signers (with_name names p))
    counts-full h = record { members = more-members; quorum = omega (arith, h, more-held, counts-within); word = more-word }

    -- once: a tally that gave out its certificate gives out no other
    pub counts-once : quorum_of m ≤ held m names → weight + stake_of m p < quorum_of m
    unfolding quorum_of quorum_from
    counts-once h = omega (arith, k.spent h, more-held, weight-le m (signers (with_name names p)))

    pub counts-more : Counts m (with_name names p) (cond (ltb (weight + stake_of m p) (quorum_of m)) (weight + stake_of m p) 0)
    counts-more = cases (ltb (weight + stake_of m p) (quorum_of m)) refl
      where
        cases : (b : Bool) → ltb (weight + stake_of m p) (quorum_of m) ≡ b → Counts m (with_name names p) (cond b (weight + stake_of m p) 0)
        cases true e =
            record {
              members = more-members;
              word = more-word;
              unspent = λ h. omega (arith, h, more-held, k.unspent (omega (arith, h, more-held)));
              spent = λ h. late h (ltb (held m names) (quorum_of m)) refl;
            }
          where
            late : quorum_of m ≤ held m (with_name names p) → (b : Bool) → ltb (held m names) (quorum_of m) ≡ b
                → weight + stake_of m p + quorum_of m ≤ held m (with_name names p)
            late h true f = absurd (omega (arith, h, more-held, k.unspent (ltb-true _ _ f), ltb-true (weight + stake_of m p) (quorum_of m) e))
            late h false f = omega (arith, h, more-held, k.spent (ltb-false _ _ f))
        cases false e =
            record {
              members = more-members;
              word = more-word;
              unspent = λ h. absurd (omega (arith, h, more-held, counts-within, ltb-false (weight + stake_of m p) (quorum_of m) e));
              spent = λ h. omega arith;
            }

-- one more author
module _ (m : List ℕ) (by : List ℕ → ℕ → Type 0) {test : List ℕ → Bool} {new : List ℕ} {mark : List ℕ → List ℕ} {w : ℕ} (k : Kind test new mark w) (p : ℕ) (who : Known m p) where
  pub tallied-more : (t : List ℕ) → length t ≡ w → Tallied m by t → has_name (names_of t) p ≡ false → let u = with_author mark t p (stake_of m p) (quorum_of m) in
      by u p → ((q : ℕ) → q ≢ p → by t q → by u q) → Tallied m by u
  tallied-more t l h fresh mine theirs =
      let wide : fields ≤ length t = omega (arith, k.wide, l) in
      let names = author-names k.marks t p (stake_of m p) (quorum_of m) wide in
      record {
        counts = rw (names, author-weight k.marks t p (stake_of m p) (quorum_of m) wide) (counts-more m h.counts p who fresh);
        signed = λ q e.
            let e' : is_in (words (signers (with_name (names_of t) p))) q ≡ 1 = rw names at e in
            by_cases (ℕ_discrete q p) (λ z. rw z mine) (λ n. theirs q n (h.signed q (sym (signer-other (signers (names_of t)) p who.small q n) ∙ e')));
      }

  module _ {n : ℕ} {v v' : List ℕ} {i : ℕ} {s : Signers} (f : Filled test new mark w n v p (stake_of m p) (quorum_of m) i s v') where
    -- a quorum's tally was there, or is new; either way the signers that it gives out are a quorum of members with stake
    pub filled-quorate : Each (Tallied m by) w n v → Quorate m s
    filled-quorate all =
        let same : s ≡ signers (with_name (names_of f.tally) p) = ap signers f.names in
        rw same (counts-full m (stood f.counted.stood) p who f.counted.fresh f.reached)
      where
        stood : (row w v i ≡ f.tally) ⊎ ((used_of (row w v i) ≡ 0) × (f.tally ≡ new)) → Counts m (names_of f.tally) (weight_of f.tally)
        stood (inl a) = rw (← a) (all.at i f.counted.below (k.used (row w v i) (rw a f.counted.passes))).counts
        stood (inr a) = rw a.1 (tallied-new m by new k.weight k.names).counts

    -- and they are the names of the tally that is left
    pub filled-signed : Each (Tallied m by) w n v' → (q : ℕ) → is_in (words s) q ≡ 1 → by (row w v' i) q
    filled-signed all q e = (all.at i f.counted.below (k.used (row w v' i) (counted-passes k f.counted))).signed q (rw f.word at e)

-- no tally in use is heavier than the total
pub tallied-light : (m : List ℕ) (by : List ℕ → ℕ → Type 0) (w n : ℕ) (v : List ℕ) → Each (Tallied m by) w n v → Light w n v (sum m)
tallied-light m by w n v e = record { weight = λ i b u. counts-light m (e.at i b u).counts }
