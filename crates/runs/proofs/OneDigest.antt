-- Demand 3, its last sentence: one digest a round, for members that are never restarted or restarted only by W3. Assumes nothing; the premises are those of `Members`
-- and `Certificate` in specs/Signed.
--     one-vote           two VOTEs of one round in a course are for one block
--     one-digest         two accepted vote certificates of one round name one block digest
--     certificate-voter  an accepted vote certificate has the vote of a member that obeys
use Prim.Native.Nat.{ℕ, suc}
use mathlib.Core.Path.{◌≡◌, refl, sym, ◌∙◌}
use Rattle.std.specs.Prelude.{Ok}
use Rattle.certificates.specs.declared.numbers.Hash.{Hash}
use Rattle.certificates.specs.Config.{quorum_of}
use Rattle.certificates.specs.Messages.{qc_form, check_part}
use Rattle.certificates.specs.Signers.{words}
use Rattle.certificates.proofs.Accepted as accepted
use Rattle.certificates.proofs.Accepted.{embedded-part, certified-named}
use Rattle.outputs.specs.Records.{vote}
use Rattle.runs.specs.Runs.{Written}
use Rattle.runs.specs.Courses.{Course, outputs}
use Rattle.runs.specs.Lives.{Sitting, Voted, Certified}
use Rattle.runs.specs.Signed.{Members, Certificate}
use Rattle.runs.proofs.Handled.{accepted-quorate}
use Rattle.runs.proofs.CourseLives.{life_of, careful, signed-at}
use Rattle.runs.proofs.Quorums as lives
use Rattle.runs.proofs.Parties.{party_of, sits, cast, quorum-of, trusted}

-- Two VOTEs of one round in a course name the same block.
pub one-vote : (r : Course) {to to' n : ℕ} {h h' : Hash} → Written (vote to h n) (outputs r) → Written (vote to' h' n) (outputs r) → h ≡ h'
one-vote r {to} {to'} {n} {h} {h'} p q =
    let a = signed-at r refl p in
    let b = signed-at r refl q in
    lives.one-vote (life_of r) (careful r) (suc a.0) (suc b.0) h h' n (to, a.1) (to', b.1)

module _ (M : Members) where
  -- an accepted certificate is a quorum, and those of it that obey voted so
  pub certified : {h : Hash} {n : ℕ} → Certificate M h n → Certified (party_of M) h n
  certified c =
      let a : check_part qc_form M.stakes (quorum_of M.stakes) c.part ≡ Ok c.signers = sym (embedded-part M.stakes (quorum_of M.stakes) c.part c.other) ∙ c.accepted in
      let k = accepted.certified qc_form M.stakes (quorum_of M.stakes) c.part c.signers a in
      record {
        signers = words c.signers;
        quorum = quorum-of M c.signers (accepted-quorate qc_form M.stakes c.part c.signers a);
        signed = λ p b o. cast M (rw (c.hashed, c.round) at (c.result p (sits M p o) (certified-named k p b)));
      }

  -- Two accepted vote certificates of one round, other than genesis and with true results, name one block digest.
  pub one-digest : {h h' : Hash} {n : ℕ} → Certificate M h n → Certificate M h' n → h ≡ h'
  one-digest {h} {h'} {n} c d = lives.one-digest (party_of M) (trusted M) h h' n (certified c) (certified d)

  -- An accepted vote certificate has the vote of a member that obeys.
  pub certificate-voter : {h : Hash} {n : ℕ} → Certificate M h n → (p : ℕ) × Sitting (party_of M) p × Voted (party_of M) p h n
  certificate-voter {h} {n} c = lives.voter (party_of M) (trusted M) h n (certified c)
