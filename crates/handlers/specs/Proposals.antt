-- 01, Events: PROPOSE, up to its payload. m is the committee, s the state, b the block, r the record's bytes.
--     leader_check m b                      leader; author stake; verdict
--     qc_found m r                          what the check of the block's QC finds
--     tc_number_of m r tc, tc_number m b r  the number of its TC's check
--     proposal_check m b r qc               the checks in 01's order: the number of the first that is not passed, or 0
--     advanced_by tc s, advanced_tc b s     advance by TC
--     taken s b signers                     take QC; advance by TC
--     Proposal                              an outcome before the table of blocks, and whether the block goes on to it
--     payload_number, by_payload payload a  what the payload's verdict makes of a block whose certificates were taken
--     proposal_of m s b r payload           what a proposal does
--     Proposes k p ..                       what code did, against such a definition
--     payload_answer payload, payload_as a payload   the answer of a payload, and what code hands on with it
--     taken_most                            the most bytes that a proposal writes
use Rattle.std.specs.Prelude.{ℕ, ◌+◌, Bool, false, cond, List, ◌≡◌, eqb, Result, Ok, Err, is_ok, Option, None, Some}
use Rattle.certificates.specs.declared.numbers.Signers.{Signers}
use Rattle.certificates.specs.declared.error.CertificateError.{CertificateError}
use Rattle.certificates.specs.Config.{quorum_of}
use Rattle.certificates.specs.Leader.{leader_of}
use Rattle.certificates.specs.Messages.{embedded_check, tc_check, author_check}
use Rattle.certificates.specs.declared.error.Refusal.{Refusal}
use Rattle.certificates.specs.declared.error.Refusal.TheVariants as refusal
use Rattle.certificates.specs.Error.{number, wait_payload, wrong_leader, qc_requires_quorum, tc_requires_quorum, invalid_payload, number_of, author_number}
use Rattle.trace.specs.declared.events.Block.{Block}
use Rattle.trace.specs.declared.events.BlockTc.{BlockTc}
use Rattle.trace.specs.Layout.{block_qc, qc_part, tc_part}
use Rattle.moves.specs.declared.state.Moved.{Moved}
use Rattle.moves.specs.declared.state.Ran.{Ran}
use Rattle.moves.specs.State.{State}
use Rattle.moves.specs.Outcome.{Step, Outcome, quiet, and_then, done, refused, Did}
use Rattle.moves.specs.Moves.{advanced, taken_qc, advance_most}
use Rattle.moves.specs.Tallied.{qc_of}
use Rattle.handlers.specs.Sound.{first, signers_of}

-- "PROPOSE: leader; author stake; verdict"
unfoldable pub leader_check : List ℕ → Block → ℕ
leader_check m b = cond (eqb (leader_of m b.round.0) b.author.0) (author_number (author_check m b.author.0 b.verdict)) wrong_leader

-- "QC"
abbrev pub qc_found : List ℕ → List ℕ → Result Signers CertificateError
qc_found m r = embedded_check m (quorum_of m) (qc_part r block_qc)

-- "TC": 0 where the block has none
abbrev pub tc_number_of : List ℕ → List ℕ → Option BlockTc → ℕ
tc_number_of m r None = 0
tc_number_of m r (Some t) = number_of (tc_check m (quorum_of m) (tc_part r t.at)) tc_requires_quorum

unfoldable pub tc_number : List ℕ → Block → List ℕ → ℕ
tc_number m b r = tc_number_of m r b.tc

-- "leader; author stake; verdict; QC; TC", in this order
unfoldable pub proposal_check : List ℕ → Block → List ℕ → Result Signers CertificateError → ℕ
proposal_check m b r qc = first (leader_check m b) (first (number_of qc qc_requires_quorum) (tc_number m b r))

-- "advance by TC": the round is left where the block has none
abbrev pub advanced_by : Option BlockTc → State → Step
advanced_by None s = quiet s
advanced_by (Some t) s = advanced s t.round.0

unfoldable pub advanced_tc : Block → State → Step
advanced_tc b s = advanced_by b.tc s

-- "take QC; advance by TC"
unfoldable pub taken : State → Block → Signers → Step
taken s b signers = and_then (taken_qc s (qc_of b.qc_hash b.qc_round.0 signers)) (advanced_tc b)

pub record Proposal : Type 0 where
  pub goes_on : Bool
  pub out : Outcome

-- "payload": 0 absent, 1 ready, 2 invalid
unfoldable pub payload_number : ℕ → ℕ
payload_number payload = cond (eqb payload 1) 0 (cond (eqb payload 0) wait_payload invalid_payload)

-- "payload; then as LOOPBACK": a block goes on if its payload is ready; certificates are taken whatever it is
unfoldable pub by_payload : ℕ → Step → Proposal
by_payload payload a = record { goes_on = eqb payload 1; out = done (payload_number payload) a }

unfoldable pub proposal_with : List ℕ → State → Block → List ℕ → ℕ → Result Signers CertificateError → Proposal
proposal_with m s b r payload qc =
    cond (eqb (proposal_check m b r qc) 0) (by_payload payload (taken s b (signers_of qc)))
    (record { goes_on = false; out = refused (proposal_check m b r qc) s })

unfoldable pub proposal_of : List ℕ → State → Block → List ℕ → ℕ → Proposal
proposal_of m s b r payload = proposal_with m s b r payload (qc_found m r)

-- ---- what code did

pub record Proposes (k : ℕ) (p : Proposal) (before : List ℕ) (at : ℕ) (r : Ran) (votes timeouts after : List ℕ) : Type 0 where
  pub goes : is_ok r.answer ≡ p.goes_on
  pub answer : number r.answer ≡ p.out.answer
  pub did : Did k p.out.left before at r.core votes timeouts after r.at

abbrev pub payload_answer : ℕ → Result Unit Refusal
payload_answer payload = cond (eqb payload 1) (Ok tt) (cond (eqb payload 0) (Err refusal.WaitPayload) (Err refusal.InvalidPayload))

abbrev pub payload_as : Moved → ℕ → Ran
payload_as a payload = record { answer = payload_answer payload; core = a.core; at = a.at }

-- ---- how much is written at most

abbrev pub taken_most : ℕ
taken_most = advance_most + advance_most
