-- Demand 3, its first part: "a checked certificate other than genesis is accepted, whoever built it, exactly when its signers are distinct members with
-- stake, reach quorum, and its signature result is yes. .. Two so accepted under one committee share signers holding over a third of the stake."
--
-- A certificate is its bytes, of the form f: `qc_form` or `tc_form`. `places_in f part` is the list of its signers. A committee m is the list of its
-- members' stakes. "Within the limits" is `length m ≤ members_max`: a setup that START takes has no more members (`within` of proofs/ConfigLaws).
--     accepted-iff          accepted exactly when justified
--     qc-accepted-iff, tc-accepted-iff, embedded-accepted-iff    of a QC, of a TC, and of a QC inside a block or a timeout
--     genesis-accepted      one that equals genesis is not checked there
--     overlap               two accepted share signers with more than a third of the stake
--     shared-signer         so there is a signer of both, a member with stake
--     obeying-signer        and one who is not in a given set of at most a third
-- Assumes nothing.
use Prim.Native.Nat.{ℕ, ◌+◌, ◌*◌, ◌≤◌, ◌<◌}
use mathlib.Core.Path.{◌≡◌}
use mathlib.Core.Logic.{◌≢◌, ◌↔◌}
use mathlib.Core.List.{List, []}
use mathlib.Core.Bool.{true, false}
use native.Mathlib.Omega.{arith}
use lib.ListN.{length, get_or}
use Rattle.std.specs.Prelude.{Result, Ok}
use Rattle.certificates.specs.declared.numbers.Signers.{Signers}
use Rattle.certificates.specs.declared.error.CertificateError.{CertificateError}
use Rattle.certificates.specs.Config.{members_max, sum, stake_of, quorum_of}
use Rattle.certificates.specs.Signers.{is_in, stake_in, words, no_signers, signers_of, weight_of, member, stake_on, shared}
use Rattle.certificates.specs.declared.messages.Form.{Form}
use Rattle.certificates.specs.Messages.{qc_form, tc_form, verdict_in, count_of, places_in, check_part, qc_check, tc_check, equals_genesis, embedded_check}
use Rattle.certificates.proofs.ConfigLaws.{stake-member}
use Rattle.certificates.proofs.Accepted.{walked-distinct, distinct-walked, shared-stake, qc-part, tc-part, embedded-part, certified, accepted, length-places, certified-named, certified-known}
use Rattle.certificates.proofs.Overlap.{quorums-share, quorums-common}

-- ---- accepted exactly when ..

pub record Justified (f : Form) (m part : List ℕ) : Type 0 where
  -- the bytes hold the whole list
  pub whole : f.at + 3 + f.stride * count_of f part ≤ length part
  -- "its signers are distinct ..
  pub distinct : (i j : ℕ) → i < j → j < count_of f part → get_or (places_in f part) i 0 ≢ get_or (places_in f part) j 0
  -- .. members ..
  pub members : (i : ℕ) → i < count_of f part → get_or (places_in f part) i 0 < length m
  -- .. with stake, ..
  pub staked : (i : ℕ) → i < count_of f part → stake_of m (get_or (places_in f part) i 0) ≢ 0
  -- .. reach quorum, ..
  pub quorum : quorum_of m ≤ stake_on m (places_in f part)
  -- .. and its signature result is yes"
  pub verdict : verdict_in f part ≡ 1

-- whether a check accepts
abbrev pub Accepts : Result Signers CertificateError → Type 0
Accepts r = (s : Signers) × (r ≡ Ok s)

module _ (f : Form) (m part : List ℕ) (limits : length m ≤ members_max) where
  only-justified : Accepts (check_part f m (quorum_of m) part) → Justified f m part
  unfolding weight_of
  only-justified a =
      let k = certified f m (quorum_of m) part a.0 a.1 in
      let d = walked-distinct m (places_in f part) k.walked in
      let n = length-places f part in
      record {
        whole = k.whole;
        distinct = λ i j l h. d.distinct i j l (omega arith);
        members = λ i h. stake-member m (get_or (places_in f part) i 0) (d.known i (omega arith)).stake;
        staked = λ i h. (d.known i (omega arith)).stake;
        quorum = omega (arith, k.clean.stake, k.quorum);
        verdict = k.verdict;
      }

  all-justified : Justified f m part → Accepts (check_part f m (quorum_of m) part)
  all-justified j =
      let n = length-places f part in
      let w = distinct-walked m (places_in f part) (record {
        distinct = λ i k l h. j.distinct i k l (omega arith);
        known = λ i h. record { small = omega (arith, j.members i (omega arith)); stake = j.staked i (omega arith) };
      }) in
      (signers_of (places_in f part), accepted f m (quorum_of m) part j.whole w j.quorum j.verdict)

  pub accepted-iff : Accepts (check_part f m (quorum_of m) part) ↔ Justified f m part
  accepted-iff = (only-justified, all-justified)

module _ (m part : List ℕ) (limits : length m ≤ members_max) where
  pub qc-accepted-iff : Accepts (qc_check m (quorum_of m) part) ↔ Justified qc_form m part
  qc-accepted-iff = rw qc-part (accepted-iff qc_form m part limits)

  pub tc-accepted-iff : Accepts (tc_check m (quorum_of m) part) ↔ Justified tc_form m part
  tc-accepted-iff = rw tc-part (accepted-iff tc_form m part limits)

  -- inside a block or a timeout, "other than genesis"
  pub embedded-accepted-iff : equals_genesis part ≡ false → Accepts (embedded_check m (quorum_of m) part) ↔ Justified qc_form m part
  embedded-accepted-iff other = rw (embedded-part m (quorum_of m) part other) (accepted-iff qc_form m part limits)

pub genesis-accepted : (m : List ℕ) (need : ℕ) (part : List ℕ) → equals_genesis part ≡ true → embedded_check m need part ≡ Ok no_signers
unfolding embedded_check
genesis-accepted m need part same = rw same

-- ---- two accepted

-- a signer that both lists name, a member with stake
pub record Shared (m ps qs : List ℕ) (p : ℕ) : Type 0 where
  pub in-first : member p ps ≡ true
  pub in-second : member p qs ≡ true
  pub a-member : p < length m
  pub staked : stake_of m p ≢ 0

module _ (m : List ℕ) (f g : Form) (part part' : List ℕ) (v w : Signers)
    (first : check_part f m (quorum_of m) part ≡ Ok v) (second : check_part g m (quorum_of m) part' ≡ Ok w) where
  pub overlap : sum m < 3 * stake_on m (shared (places_in f part) (places_in g part'))
  unfolding weight_of
  overlap =
      let k = certified f m (quorum_of m) part v first in
      let l = certified g m (quorum_of m) part' w second in
      omega (arith, quorums-share m (words v) (words w) k.quorum l.quorum, shared-stake m (places_in f part) (places_in g part') v w k.walked k.clean l.clean)

  pub obeying-signer : (out : List ℕ) → 3 * stake_in m out ≤ sum m → (p : ℕ) × Shared m (places_in f part) (places_in g part') p × (is_in out p ≡ 0)
  unfolding weight_of
  obeying-signer out few =
      let k = certified f m (quorum_of m) part v first in
      let l = certified g m (quorum_of m) part' w second in
      let t = quorums-common m (words v) (words w) k.quorum l.quorum out few in
      let e = certified-known k t.0 t.1 in
      let both : Shared m (places_in f part) (places_in g part') t.0 = record {
        in-first = certified-named k t.0 t.1;
        in-second = certified-named l t.0 t.2;
        a-member = stake-member m t.0 e.stake;
        staked = e.stake;
      } in
      (t.0, both, t.3)

  pub shared-signer : (p : ℕ) × Shared m (places_in f part) (places_in g part') p
  unfolding stake_in
  shared-signer = let t = obeying-signer [] (omega arith) in (t.0, t.1)
