-- What the handlers share: laws of checks that answer a number, of authors, and of a record that counts as started. Assumes nothing.
--     first-refused, first-passed, first-both     the first of two checks that is not passed
--     answer-no, answer-yes                       what an answer tells of its number
--     passes-no, passes-yes, passes-first, passes-on   what checks answer, one by one
--     found-no, found-yes                         .. the check of a certificate
--     author-member                               an author whose check is passed is a member
--     keeps-sound, sound-taken                    a record that counts as started is one after a move, and once a QC is taken
--     sound-stake, sound-place                    in such a record: a stake, and a member's place, within the limits
--     sound-counts-vote, sound-counts-timeout     .. a member may be counted
use Prim.Native.Nat.{ℕ, ◌≤◌, ◌<◌}
use mathlib.Core.Bool.{Bool, true, false, cond}
use mathlib.Core.List.{List}
use mathlib.Core.Path.{◌≡◌, refl, sym, ap, ◌∙◌}
use native.Mathlib.Omega.{arith}
use borrow.Author.Tests.{eq-eqb, ne_eqb, eqb-true, eqb-false}
use lib.Dec.{eqb}
use lib.ListN.{length}
use Rattle.std.specs.Prelude.{Result, Ok, Err}
use Rattle.certificates.specs.declared.numbers.Signers.{Signers}
use Rattle.certificates.specs.declared.error.CertificateError.{CertificateError}
use Rattle.certificates.specs.declared.error.Refusal.{Refusal}
use Rattle.certificates.specs.declared.messages.QC.{QC}
use Rattle.certificates.specs.Config.{total_max, stake_of}
use Rattle.certificates.specs.Messages.{author_check}
use Rattle.certificates.specs.Error.{code, number, number_of, author_number}
use Rattle.certificates.proofs.ConfigLaws.{stake-le}
use Rattle.certificates.proofs.MessageLaws.{author}
use Rattle.certificates.proofs.ErrorLaws.{code-some, number-valid}
use Rattle.aggregator.specs.Tally.{places, vote_width, timeout_width}
use Rattle.aggregator.specs.Tallies.{vote_tallies, timeout_tallies, Countable}
use Rattle.aggregator.proofs.Laws.{countable}
use Rattle.moves.specs.declared.state.Core.{Core}
use Rattle.moves.specs.State.{State, whole}
use Rattle.moves.specs.Outcome.{Did}
use Rattle.moves.specs.Moves.{taken_qc}
use Rattle.moves.proofs.MoveLaws.{Keeps, did-keeps, taken-keeps}
use Rattle.handlers.specs.Sound.{Sound, first, signers_of, Answers}

-- ---- the first of two checks that is not passed

module _ (a b : ℕ) where
  pub first-refused : (a ≡ 0 → ⊥) → first a b ≡ a
  first-refused h = rw (ne_eqb a 0 h)

  pub first-passed : a ≡ 0 → first a b ≡ b
  first-passed h = rw (eq-eqb a 0 h)

  from_first : (t : Bool) → t ≡ eqb a 0 → cond t b a ≡ 0 → (a ≡ 0) × (b ≡ 0)
  from_first true h e = (eqb-true a 0 (sym h), e)
  from_first false h e = absurd (eqb-false a 0 (sym h) e)

  -- a check that answers 0 was passed
  pub first-both : first a b ≡ 0 → (a ≡ 0) × (b ≡ 0)
  first-both e = from_first (eqb a 0) refl e

-- ---- what checks answer

-- an answer as it is handed on
pub answer-no : {n : ℕ} {x : Result Unit Refusal} {r : Refusal} → number x ≡ n → x ≡ Err r → code r ≡ n
answer-no e i = sym (ap number i) ∙ e

pub answer-yes : {n : ℕ} {x : Result Unit Refusal} {u : Unit} → number x ≡ n → x ≡ Ok u → n ≡ 0
answer-yes e i = sym e ∙ ap number i

pub passes-no : {n : ℕ} {s : Signers} (r : Refusal) → code r ≡ n → Answers n s (Err r)
passes-no r e =
    record {
      refused = λ q i. let p : r ≡ q = cc in ap code (sym p) ∙ e;
      passed = λ y i. absurd (let z : ◌≡◌ {A = ℕ} 0 1 = cc in omega arith);
    }

pub passes-yes : {n : ℕ} {s y : Signers} → n ≡ 0 → y ≡ s → Answers n s (Ok y)
passes-yes {s = s} {y = y} z e =
    record {
      refused = λ r i. absurd (let z : ◌≡◌ {A = ℕ} 0 1 = cc in omega arith);
      passed = λ x i. let p : y ≡ x = cc in (z, sym p ∙ e);
    }

pub passes-first : {a : ℕ} (b : ℕ) {s : Signers} (r : Refusal) → code r ≡ a → Answers (first a b) s (Err r)
passes-first {a} b r e = passes-no r (e ∙ sym (first-refused a b (λ z. code-some r (e ∙ z))))

pub passes-on : {a b : ℕ} {s : Signers} {x : Result Signers Refusal} → a ≡ 0 → Answers b s x → Answers (first a b) s x
passes-on {a} {b} z p = rw (first-passed a b z) p

module _ {c : Result Signers CertificateError} (q : ℕ) where
  pub found-no : {e : CertificateError} (r : Refusal) → c ≡ Err e → code r ≡ number_of (Err e) q → code r ≡ number_of c q
  found-no r i f = rw i f

  pub found-yes : {y : Signers} → c ≡ Ok y → (number_of c q ≡ 0) × (y ≡ signers_of c)
  found-yes i = rw i (refl, refl)

-- ---- an author

-- an author whose check is passed is a member
pub author-member : (m : List ℕ) (p verdict : ℕ) → author_number (author_check m p verdict) ≡ 0 → p < length m
author-member m p verdict e =
    let v = number-valid (author_check m p verdict) e in
    (author m p verdict v.0 v.1).member

-- ---- a record that counts as started

-- a record that counts as started is one after a move
pub keeps-sound : {m : List ℕ} {own : ℕ} {s s' : State} → Keeps total_max s s' → Sound m own s.votes s.timeouts → Sound m own s'.votes s'.timeouts
keeps-sound h k =
    record {
      few = k.few;
      member = k.member;
      small = k.small;
      long = h.votes ∙ k.long;
      wide = h.timeouts ∙ k.wide;
      light = h.votes-light k.light;
      late = h.timeouts-light k.late;
    }

module _ {m : List ℕ} {own : ℕ} {votes timeouts : List ℕ} (k : Sound m own votes timeouts) where
  pub sound-stake : (p : ℕ) → stake_of m p ≤ total_max
  sound-stake p = omega (arith, stake-le m p, k.small)

  pub sound-place : (p : ℕ) → p < length m → p < places
  sound-place p h = omega (arith, k.few)

  -- what `add_vote` and `add_timeout` ask of a member with its stake
  module _ (p : ℕ) {stake : ℕ} (h : p < length m) (e : stake ≡ stake_of m p) where
    pub sound-counts-vote : Countable vote_width vote_tallies votes p stake
    sound-counts-vote = countable vote_width vote_tallies votes total_max p stake k.long (sound-place p h) k.light (rw e (sound-stake p)) (omega arith)

    pub sound-counts-timeout : Countable timeout_width timeout_tallies timeouts p stake
    sound-counts-timeout =
        countable timeout_width timeout_tallies timeouts total_max p stake k.wide (sound-place p h) k.late (rw e (sound-stake p)) (omega arith)

  -- once a QC is taken
  pub sound-taken : (core : Core) (q : QC) {l at next : ℕ} {c : Core} {out out' v t : List ℕ} → Did l (taken_qc (whole core votes timeouts) q) out at c v t out' next → Sound m own v t
  sound-taken core q {c = c} {v = v} {t = t} d =
      keeps-sound {s = whole core votes timeouts} {s' = whole c v t} (did-keeps d (taken-keeps total_max (whole core votes timeouts) k.long k.wide q)) k
