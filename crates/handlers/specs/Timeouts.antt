-- 01, Events: TIMEOUT, TC, TICK. m is the committee, own the own place, s the state, r the record's bytes.
--     handle_timeout_most, handle_tc_most, tick_most, local_timeout_most  the most bytes that are written
--     timeout_check m current t             the checks of a timeout itself
--     timeout_taken m own s t signers       its QC is taken, then the timeout counted
--     timeout_qc_found m r                  what the check of its QC finds
--     timeout_number m current t qc         the number of its checks
--     timeout_with m own s t qc             TIMEOUT, by what the check of its QC answers
--     handled_timeout m own s t r           TIMEOUT
--     tc_taken m own s round names part     advance, then MAKE with the TC
--     stale_if round current                STALE for a round below the current one
--     tc_event_number current round tc      the number of TC's checks
--     tc_with m own s round part tc         TC, by what its check answers
--     handled_tc m own s round r            TC
--     voted_up c round                      last voted raised to a round, never lowered
--     tick_outs c, ticked s                 what a tick writes, and all that it does before the own timeout
--     TicksTo core ..                       what code did: a tick
--     own_timeout m own s                   the own timeout, from its author check on
--     handled_tick m own s                  TICK
use Rattle.std.specs.Prelude.{ℕ, ◌+◌, cond, List, [], ◌∷◌, ltb, ◌≡◌, Result}
use Rattle.certificates.specs.declared.numbers.Signers.{Signers}
use Rattle.certificates.specs.declared.error.CertificateError.{CertificateError}
use Rattle.certificates.specs.Config.{stake_of, quorum_of}
use Rattle.certificates.specs.Messages.{embedded_check, tc_check, author_check}
use Rattle.certificates.specs.Error.{stale, round_too_high, qc_requires_quorum, tc_requires_quorum, number_of, author_number}
use Rattle.trace.specs.declared.events.Timeout.{Timeout}
use Rattle.certificates.specs.Numbers.{round_max}
use Rattle.trace.specs.Layout.{timeout_qc, tc_body, qc_part, tc_part, highs_of}
use Rattle.outputs.specs.Records.{Rec, timeout, timer_reset, timer_reset_size, timeout_size, make_with_most}
use Rattle.outputs.specs.Put.{Wrote}
use Rattle.moves.specs.declared.state.Core.{Core}
use Rattle.moves.specs.State.{State, with_core, with_voted}
use Rattle.moves.specs.Outcome.{Step, Outcome, and_then, done, after, refused, checked}
use Rattle.moves.specs.Moves.{advanced, taken_qc, make_with_of, advance_most, time_out_most}
use Rattle.moves.specs.Tallied.{qc_of, timeout_tallied}
use Rattle.handlers.specs.Sound.{first, signers_of}

-- ---- how much is written at most

abbrev pub handle_timeout_most : ℕ
handle_timeout_most = advance_most + time_out_most

abbrev pub handle_tc_most : ℕ
handle_tc_most = advance_most + make_with_most

abbrev pub tick_most : ℕ
tick_most = timer_reset_size + timeout_size

abbrev pub local_timeout_most : ℕ
local_timeout_most = tick_most + time_out_most

-- ---- TIMEOUT

-- "TIMEOUT: STALE likewise; author; verdict"
unfoldable pub timeout_check : List ℕ → ℕ → Timeout → ℕ
timeout_check m current t = cond (ltb t.round.0 current) stale (author_number (author_check m t.author.0 t.verdict))

-- "the QC is taken; then the tally by round, even if the round has now passed it"
unfoldable pub timeout_taken : List ℕ → ℕ → State → Timeout → Signers → Outcome
timeout_taken m own s t signers =
    after (taken_qc s (qc_of t.qc_hash t.qc_round.0 signers))
    (λ (u : State). timeout_tallied m own (quorum_of m) u t.round.0 t.author.0 (stake_of m t.author.0) t.qc_round.0)

-- ".. its QC .."
abbrev pub timeout_qc_found : List ℕ → List ℕ → Result Signers CertificateError
timeout_qc_found m r = embedded_check m (quorum_of m) (qc_part r timeout_qc)

abbrev pub timeout_number : List ℕ → ℕ → Timeout → Result Signers CertificateError → ℕ
timeout_number m current t qc = first (timeout_check m current t) (number_of qc qc_requires_quorum)

-- ".. the QC is taken .."
unfoldable pub timeout_with : List ℕ → ℕ → State → Timeout → Result Signers CertificateError → Outcome
timeout_with m own s t qc = checked (timeout_number m s.core.round.0 t qc) s (timeout_taken m own s t (signers_of qc))

unfoldable pub handled_timeout : List ℕ → ℕ → State → Timeout → List ℕ → Outcome
handled_timeout m own s t r = timeout_with m own s t (timeout_qc_found m r)

-- ---- TC

-- "advance; MAKE with it if leading."
unfoldable pub tc_taken : List ℕ → ℕ → State → ℕ → Signers → List ℕ → Step
tc_taken m own s round names part =
    and_then (advanced s round) (λ (t : State). record { state = t; outs = make_with_of m own t.core round names.0 (highs_of part) })

abbrev pub stale_if : ℕ → ℕ → ℕ
stale_if round current = cond (ltb round current) stale 0

-- "TC: checked first, then STALE if below"
abbrev pub tc_event_number : ℕ → ℕ → Result Signers CertificateError → ℕ
tc_event_number current round tc = first (number_of tc tc_requires_quorum) (stale_if round current)

unfoldable pub tc_with : List ℕ → ℕ → State → ℕ → List ℕ → Result Signers CertificateError → Outcome
tc_with m own s round part tc = checked (tc_event_number s.core.round.0 round tc) s (done 0 (tc_taken m own s round (signers_of tc) part))

unfoldable pub handled_tc : List ℕ → ℕ → State → ℕ → List ℕ → Outcome
handled_tc m own s round r = tc_with m own s round (tc_part r tc_body) (tc_check m (quorum_of m) (tc_part r tc_body))

-- ---- TICK

-- "TICK: last voted rises to the current round"
unfoldable pub voted_up : Core → ℕ → Core
voted_up c round = cond (ltb c.last_voted_round.0 round) (with_voted c round) c

-- "TIMER RESET; TIMEOUT"
abbrev pub tick_outs : Core → List Rec
tick_outs c = timer_reset ∷ timeout c.round.0 c.high_qc ∷ []

abbrev pub ticked : State → Step
ticked s = record { state = with_core s (voted_up s.core s.core.round.0); outs = tick_outs s.core }

-- what the code that ticks did
pub record TicksTo (core : Core) (before : List ℕ) (at : ℕ) (core' : Core) (after : List ℕ) (next : ℕ) : Type 0 where
  pub raised : core' ≡ voted_up core core.round.0
  pub stays : core'.round ≡ core.round
  pub bytes : Wrote tick_most (tick_outs core) before at after next

-- "then own timeout as TIMEOUT from its author check on, verdict yes, its QC neither checked nor taken"
unfoldable pub own_timeout : List ℕ → ℕ → State → Outcome
own_timeout m own s =
    checked (author_number (author_check m own 1)) s
    (timeout_tallied m own (quorum_of m) s s.core.round.0 own (stake_of m own) s.core.high_qc.round.0)

-- "19: any round in the record above 2^62; TICK while the current round is"
unfoldable pub handled_tick : List ℕ → ℕ → State → Outcome
handled_tick m own s = cond (ltb round_max s.core.round.0) (refused round_too_high s) (after (ticked s) (own_timeout m own))
