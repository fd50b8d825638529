-- What a member that obeys hands out: with true results it hands out true certificates. W11 does not ask for it; a host that signs and sends what its replica wrote does.
--     AllTruthful M c     the results that come with the events of the course c are true, those of timeouts and TC events too
--     TrueCertificate M q     the QC q is genesis, or whoever it names and obeys signed it
--     TrueEnding M t names highs     whoever the TC names and obeys signed that timeout
--     TrueRecord M a      the certificates in the record a are true
use Rattle.std.specs.Prelude.{ℕ, false, List, ◌≡◌, get_or, Some}
use Rattle.certificates.specs.declared.messages.QC.{QC}
use Rattle.certificates.specs.Signers.{is_in, words}
use Rattle.certificates.specs.Messages.{is_genesis}
use Rattle.trace.specs.declared.events.Kind.{Kind}
use Rattle.trace.specs.Fields.{timeout_of}
use Rattle.trace.specs.Layout.{tc_body, tc_part}
use Rattle.outputs.specs.Records.{Rec, vote, timeout, tc, make, make_with, commit, sync, clean_proposer, clean_mempool, timer_reset, answer}
use Rattle.aggregator.specs.Tally.{signers}
use Rattle.runs.specs.Courses.{Course, Moment, bytes_at, kind_at}
use Rattle.runs.specs.Signed.{Members, Sits, Signed, Expired}
use Rattle.cabinets.specs.Ledgers.{TrueTC, Truthful}

module _ (M : Members) where
  pub record AllTruthful (c : Course) : Type 0 where
    pub results : Truthful M c
    pub timeout : (m : Moment c) → kind_at m ≡ Some Kind.Timeout → let t = timeout_of (bytes_at m) in
        t.verdict ≡ 1 → Sits M t.author.0 → Expired M t.author.0 t.round.0 t.qc_round.0
    pub tc : (m : Moment c) → kind_at m ≡ Some Kind.Tc → TrueTC M (tc_part (bytes_at m) tc_body)

  abbrev pub TrueCertificate : QC → Type 0
  TrueCertificate q = is_genesis q.hash q.round.0 ≡ false → (p : ℕ) → is_in (words q.signers) p ≡ 1 → Sits M p → Signed M p q.hash q.round.0

  abbrev pub TrueEnding : ℕ → ℕ → List ℕ → Type 0
  TrueEnding t names highs = (p : ℕ) → is_in (words (signers names)) p ≡ 1 → Sits M p → Expired M p t (get_or highs p 0)

  abbrev pub TrueRecord : Rec → Type 0
  TrueRecord (vote to hash round) = Unit {0}
  TrueRecord (timeout round high) = TrueCertificate high
  TrueRecord (tc round names highs) = TrueEnding round names highs
  TrueRecord (make round high) = TrueCertificate high
  TrueRecord (make_with round high of names highs) = TrueCertificate high × TrueEnding of names highs
  TrueRecord (commit digest round) = Unit {0}
  TrueRecord (sync parent block author) = Unit {0}
  TrueRecord (clean_proposer b0 b1 block) = Unit {0}
  TrueRecord (clean_mempool round) = Unit {0}
  TrueRecord timer_reset = Unit {0}
  TrueRecord (answer n) = Unit {0}
