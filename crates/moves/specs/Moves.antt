-- 01, Events: what handlers are made of. m is the committee (the members' stakes), own the own place.
--     in_new_round s r                   the round is r, without the tallies below it
--     advanced s r                       Advance(r)
--     raised c q                         the high QC, replaced by one of a greater round
--     taken_qc s q                       taking a QC
--     leads m own c                      own place leads the round that is now current
--     make_of m own c                    MAKE without a TC, if it does
--     make_with_of m own c r names highs  MAKE with a TC, if it does
--     certified m own s q                what a quorum of votes does
--     tc_outs m own c r names highs      TC, then MAKE with it
--     timed_out m own s r names highs    what a quorum of timeouts does
--     advance_most, certify_most, tc_outs_most, time_out_most  the most bytes that each of them writes
use Rattle.std.specs.Prelude.{ℕ, ◌+◌, Bool, cond, List, [], ◌∷◌, ltb, eqb}
use Rattle.certificates.specs.declared.messages.QC.{QC}
use Rattle.certificates.specs.Leader.{leader_of}
use Rattle.outputs.specs.Records.{Rec, timer_reset, tc, make, make_with, timer_reset_size, tc_most, make_size, make_with_most}
use Rattle.aggregator.specs.Tally.{vote_width, timeout_width}
use Rattle.aggregator.specs.Tallies.{vote_tallies, timeout_tallies, dropped}
use Rattle.moves.specs.declared.state.Core.{Core}
use Rattle.moves.specs.State.{State, whole, with_core, in_round, with_high}
use Rattle.moves.specs.Outcome.{Step, quiet, wrote, and_then}

-- the round is r, without the tallies below it
abbrev pub in_new_round : State → ℕ → State
in_new_round s r = whole (in_round s.core r) (dropped vote_width vote_tallies s.votes r) (dropped timeout_width timeout_tallies s.timeouts r)

-- "Advance(r): nothing if r is below the current round. Else TIMER RESET, round becomes r+1, tallies below it are dropped and their
-- room is used again."
unfoldable pub advanced : State → ℕ → Step
advanced s r = cond (ltb r s.core.round.0) (quiet s) (wrote (in_new_round s (r + 1)) timer_reset)

-- ".. replace the high QC only if its round is greater."
unfoldable pub raised : Core → QC → Core
raised c q = cond (ltb c.high_qc.round.0 q.round.0) (with_high c q) c

-- "Taking a QC: advance by its round, then replace the high QC only if its round is greater."
unfoldable pub taken_qc : State → QC → Step
taken_qc s q = and_then (advanced s q.round.0) (λ (t : State). quiet (with_core t (raised t.core q)))

-- own place leads the round that is now current
abbrev pub leads : List ℕ → ℕ → Core → Bool
leads m own c = eqb (leader_of m c.round.0) own

-- "MAKE without TC if own place leads"
unfoldable pub make_of : List ℕ → ℕ → Core → List Rec
make_of m own c = cond (leads m own c) (make c.round.0 c.high_qc ∷ []) []

-- "MAKE with it if own place leads": a TC of this round, these names, and the high round of each place
unfoldable pub make_with_of : List ℕ → ℕ → Core → ℕ → ℕ → List ℕ → List Rec
make_with_of m own c of names highs = cond (leads m own c) (make_with c.round.0 c.high_qc of names highs ∷ []) []

-- VOTE, at quorum: "the QC is taken; MAKE without TC if own place leads the new round."
unfoldable pub certified : List ℕ → ℕ → State → QC → Step
certified m own s q = and_then (taken_qc s q) (λ (t : State). record { state = t; outs = make_of m own t.core })

-- a TC, written, and MAKE with it
unfoldable pub tc_outs : List ℕ → ℕ → Core → ℕ → ℕ → List ℕ → List Rec
tc_outs m own c round names highs = tc round names highs ∷ make_with_of m own c round names highs

-- TIMEOUT: "On a TC: advance, TC, then MAKE with it if own place leads."
unfoldable pub timed_out : List ℕ → ℕ → State → ℕ → ℕ → List ℕ → Step
timed_out m own s round names highs =
    and_then (advanced s round) (λ (t : State). record { state = t; outs = tc_outs m own t.core round names highs })

-- ---- how much is written at most

abbrev pub advance_most : ℕ
advance_most = timer_reset_size

abbrev pub certify_most : ℕ
certify_most = advance_most + make_size

abbrev pub tc_outs_most : ℕ
tc_outs_most = tc_most + make_with_most

abbrev pub time_out_most : ℕ
time_out_most = advance_most + tc_outs_most
