-- 01, Events: a vote or a timeout counted in its tally, and what follows. `need` is the quorum.
--     qc_of hash round signers         the QC of these
--     added_number a                   the number of what became of a vote or a timeout
--     after_vote, after_timeout        what follows from the tally's answer
--     vote_tallied, timeout_tallied    the tally, and what follows from it
use Rattle.aggregator.specs.Tally.{Added}
use Rattle.aggregator.specs.declared.tallies.AddError.TheVariants.{NoRoom, Used}
use Rattle.std.specs.Prelude.{ℕ, List, None, Some, Ok, Err}
use Rattle.certificates.specs.declared.numbers.Hash.{Hash}
use Rattle.certificates.specs.declared.numbers.Signers.{Signers}
use Rattle.certificates.specs.declared.messages.QC.{QC}
use Rattle.certificates.specs.Error as number
use Rattle.aggregator.specs.Tallies.{highs_at, vote_added, votes_after, timeout_added, timeouts_after}
use Rattle.moves.specs.State.{State, with_votes, with_timeouts}
use Rattle.moves.specs.Outcome.{Outcome, quiet, done, refused}
use Rattle.moves.specs.Moves.{certified, timed_out}

abbrev pub qc_of : Hash → ℕ → Signers → QC
qc_of hash round signers = record { hash = hash; round = record { 0 = round }; signers = signers }

-- 29: "new tally, all 32 vote or 16 timeout tallies held"; 24: "A used author is REUSE."; else DONE
abbrev pub added_number : Added → ℕ
added_number (Err NoRoom) = number.tallies_full
added_number (Err Used) = number.authority_reuse
added_number (Ok None) = number.done
added_number (Ok (Some q)) = number.done

-- once the vote was counted, which gave this, in a table that then is `votes`
abbrev pub after_vote : List ℕ → ℕ → State → Hash → ℕ → List ℕ → Added → Outcome
after_vote m own s hash round votes (Err NoRoom) = refused 29 s
after_vote m own s hash round votes (Err Used) = refused 24 s
after_vote m own s hash round votes (Ok None) = done 0 (quiet (with_votes s votes))
after_vote m own s hash round votes (Ok (Some q)) = done 0 (certified m own (with_votes s votes) (qc_of hash round q.signers))

-- VOTE: "tally by (round, hash). A used author is REUSE. At quorum the tally's weight becomes 0 and used names stay; the QC is taken;
-- MAKE without TC if own place leads the new round."
unfoldable pub vote_tallied : List ℕ → ℕ → ℕ → State → Hash → ℕ → ℕ → ℕ → Outcome
vote_tallied m own need s hash round p stake =
    after_vote m own s hash round (votes_after s.votes round hash p stake need) (vote_added s.votes round hash p stake need)

-- once the timeout was counted, which gave this, in a table that then is `timeouts`
abbrev pub after_timeout : List ℕ → ℕ → State → ℕ → List ℕ → Added → Outcome
after_timeout m own s round timeouts (Err NoRoom) = refused 29 s
after_timeout m own s round timeouts (Err Used) = refused 24 s
after_timeout m own s round timeouts (Ok None) = done 0 (quiet (with_timeouts s timeouts))
after_timeout m own s round timeouts (Ok (Some q)) = done 0 (timed_out m own (with_timeouts s timeouts) round q.signers.0 (highs_at timeouts q.row))

-- TIMEOUT: "the tally by round, even if the round has now passed it. On a TC: advance, TC, then MAKE with it if own place leads."
unfoldable pub timeout_tallied : List ℕ → ℕ → ℕ → State → ℕ → ℕ → ℕ → ℕ → Outcome
timeout_tallied m own need s round p stake high =
    after_timeout m own s round (timeouts_after s.timeouts round p stake need high) (timeout_added s.timeouts round p stake need)
