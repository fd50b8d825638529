-- The members of one committee: their courses, what each signed, and what the results of signature checks may be trusted for. And certificates laid out as bytes.
--     qc_bytes q                  a QC laid out as a certificate whose result is yes
--     tc_bytes round names highs  a TC likewise
--     GoodQC m q                  laid out so, it is accepted by the committee m inside a block or a timeout
--     GoodTC m round names highs  .. and a TC
--     Sends m a                   the certificates in the record a are good
--     Members                     the stakes, who breaks the rules, and one course for each of the others
--     Sits M p                    place p is a member that obeys the rules
--     Signed M p h n              p signed a vote for the hash h and the round n
--     Expired M p t h             p signed a timeout of round t with a high QC of round h
--     TrueResult M part           the result of a vote certificate is true
--     Certificate M h n           a vote certificate other than genesis, for the hash h and the round n, accepted and with a true result
use Rattle.std.specs.Prelude.{ℕ, ◌*◌, ◌≤◌, ◌<◌, true, false, cond, List, ◌∷◌, map, ◌≡◌, length, Ok}
use Rattle.std.specs.Int.Count.{ones}
use Rattle.certificates.specs.declared.numbers.Hash.{Hash}
use Rattle.certificates.specs.declared.numbers.Signers.{Signers}
use Rattle.certificates.specs.declared.messages.QC.{QC}
use Rattle.certificates.specs.Config.{sum, quorum_of}
use Rattle.certificates.specs.Num.{num_at, hash_at}
use Rattle.certificates.specs.Signers.{is_in, stake_in, no_signers, member}
use Rattle.certificates.specs.Messages.{qc_form, places_in, tc_check, equals_genesis, embedded_check}
use Rattle.outputs.specs.Fields.{number, hash, bytes_of}
use Rattle.outputs.specs.Records.{Rec, vote, timeout, tc, make, make_with, commit, sync, clean_proposer, clean_mempool, timer_reset, answer, places_of, entries}
use Rattle.replica.specs.Step.{committee}
use Rattle.runs.specs.Runs.{Written}
use Rattle.runs.specs.Courses.{Course, origin, outputs}

-- ---- certificates as bytes

-- "QC: hash 32, round 8, verdict 1, count 2, places 2 each."; "the number of signers is the count of ones in that word"
unfoldable pub qc_bytes : QC → List ℕ
qc_bytes q =
    bytes_of (hash q.hash ∷ number 8 q.round.0 ∷ number 1 1 ∷ number 2 (ones q.signers.0) ∷ map (number 2) (places_of q.signers.0))

-- "TC: round 8, verdict 1, count 2, then place 2 and high round 8 each.": the body of the record 0x0103 with its result put in
unfoldable pub tc_bytes : ℕ → ℕ → List ℕ → List ℕ
tc_bytes round names highs = bytes_of (number 8 round ∷ number 1 1 ∷ number 2 (ones names) ∷ entries (places_of names) highs)

-- the QC of a block or a timeout is accepted by the committee m with the signers that it has; one that equals genesis has none
abbrev pub GoodQC : List ℕ → QC → Type 0
GoodQC m q = embedded_check m (quorum_of m) (qc_bytes q) ≡ Ok (cond (equals_genesis (qc_bytes q)) no_signers q.signers)

-- a TC is accepted with the names that it has
abbrev pub GoodTC : List ℕ → ℕ → ℕ → List ℕ → Type 0
GoodTC m round names highs = tc_check m (quorum_of m) (tc_bytes round names highs) ≡ Ok (record { 0 = names })

abbrev pub Sends : List ℕ → Rec → Type 0
Sends m (vote to block round) = Unit {0}
Sends m (timeout round high) = GoodQC m high
Sends m (tc round names highs) = GoodTC m round names highs
Sends m (make round high) = GoodQC m high
Sends m (make_with round high of names highs) = GoodQC m high × GoodTC m of names highs
Sends m (commit digest round) = Unit {0}
Sends m (sync parent block author) = Unit {0}
Sends m (clean_proposer b0 b1 block) = Unit {0}
Sends m (clean_mempool round) = Unit {0}
Sends m timer_reset = Unit {0}
Sends m (answer n) = Unit {0}

-- ---- the members

-- "rule-breakers hold at most a third", "all others vote through one run", which is restarted only by W3; `breakers` is a set of places, and `course p` is looked at only
-- for a p that is not in it. It begins with a START of this committee and at that place.
pub record Members : Type 0 where
  pub stakes : List ℕ
  pub breakers : List ℕ
  pub course : ℕ → Course
  pub few : 3 * stake_in stakes breakers ≤ sum stakes
  pub same : (p : ℕ) → p < length stakes → is_in breakers p ≡ 0 → committee (origin (course p)) ≡ stakes
  pub seated : (p : ℕ) → p < length stakes → is_in breakers p ≡ 0 → (origin (course p)).seat.own.0 ≡ p

pub record Sits (M : Members) (p : ℕ) : Type 0 where
  pub member : p < length M.stakes
  pub obeys : is_in M.breakers p ≡ 0

-- a VOTE for this hash and round stands among what p wrote, whoever it goes to
pub record Signed (M : Members) (p : ℕ) (h : Hash) (n : ℕ) : Type 0 where
  pub to : ℕ
  pub written : Written (vote to h n) (outputs (M.course p))

-- a timeout signs its round and the round of its high QC, not the hash
pub record Expired (M : Members) (p t h : ℕ) : Type 0 where
  pub high : QC
  pub is : high.round.0 ≡ h
  pub written : Written (timeout t high) (outputs (M.course p))

-- "signature results are true": whoever is named and obeys signed this hash and round
abbrev pub TrueResult : Members → List ℕ → Type 0
TrueResult M part = (p : ℕ) → Sits M p → member p (places_in qc_form part) ≡ true → Signed M p (hash_at part 0) (num_at 8 part 32)

-- "accepted vote certificates"
pub record Certificate (M : Members) (h : Hash) (n : ℕ) : Type 0 where
  pub part : List ℕ
  pub hashed : hash_at part 0 ≡ h
  pub round : num_at 8 part 32 ≡ n
  pub other : equals_genesis part ≡ false
  pub signers : Signers
  pub accepted : embedded_check M.stakes (quorum_of M.stakes) part ≡ Ok signers
  pub result : TrueResult M part
