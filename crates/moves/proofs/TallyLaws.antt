-- Laws of what follows from counting a vote or a timeout: one for each way out, and what is kept. Assumes nothing.
--     vote-tallied-is, timeout-tallied-is              the definitions, by what the tally answers
--     vote-tallied-short, timeout-tallied-short        short of the quorum nothing more is done
--     vote-tallied-refused, timeout-tallied-refused    what is not counted is refused, and changes nothing
--     vote-tallied-full, timeout-tallied-full          at the quorum: what follows from it
--     vote-tallied-keeps, timeout-tallied-keeps        what is left as it was
use Prim.Native.Nat.{ℕ, suc, ◌≤◌}
use mathlib.Core.List.{List}
use mathlib.Core.Path.{◌≡◌, refl, sym, ◌∙◌}
use native.Mathlib.Nat.{le_refl}
use native.Mathlib.Omega.{arith}
use lib.ListN.{length}
use Rattle.aggregator.specs.declared.tallies.Quorum.{Quorum}
use Rattle.aggregator.specs.declared.tallies.AddError.{AddError}
use Rattle.certificates.specs.declared.error.Refusal.{Refusal}
use Rattle.certificates.specs.Error.{code}
use Rattle.std.specs.Prelude.{None, Some, Ok, Err}
use Rattle.aggregator.specs.declared.tallies.AddError.TheVariants.{NoRoom, Used}
use Rattle.certificates.specs.declared.numbers.Hash.{Hash}
use Rattle.aggregator.specs.Tally.{AddedAs, Added}
use Rattle.aggregator.specs.Tallies.{votes_length, timeouts_length, highs_at, vote_added, votes_after, timeout_added, timeouts_after}
use Rattle.aggregator.proofs.Laws.{vote-no-room, vote-used, votes-after-length, votes-after-light, timeout-no-room, timeout-used, timeouts-after-length, timeouts-after-light}
use Rattle.moves.specs.declared.state.Core.{Core}
use Rattle.moves.specs.State.{State, whole, with_votes, with_timeouts}
use Rattle.moves.specs.Outcome.{refused, Did, Reached}
use Rattle.moves.specs.Moves.{certified, timed_out, certify_most, time_out_most}
use Rattle.moves.specs.Tallied.{qc_of, added_number, after_vote, vote_tallied, after_timeout, timeout_tallied}
use Rattle.moves.proofs.Outcomes.{reached-done, reached-refused}
use Rattle.moves.proofs.MoveLaws.{Keeps, keeps-none, keeps_then, certified-keeps, timed-out-keeps}

-- ---- what the definitions give

pub vote-tallied-is : (m : List ℕ) (own need : ℕ) (s : State) (hash : Hash) (round p stake : ℕ)
    → vote_tallied m own need s hash round p stake ≡ after_vote m own s hash round (votes_after s.votes round hash p stake need) (vote_added s.votes round hash p stake need)
unfolding vote_tallied
vote-tallied-is m own need s hash round p stake = refl

pub timeout-tallied-is : (m : List ℕ) (own need : ℕ) (s : State) (round p stake high : ℕ)
    → timeout_tallied m own need s round p stake high ≡ after_timeout m own s round (timeouts_after s.timeouts round p stake need high) (timeout_added s.timeouts round p stake need)
unfolding timeout_tallied
timeout-tallied-is m own need s round p stake high = refl

-- ---- short of the quorum

-- no quorum
abbrev Short : Added → Type 0
Short a = (q : Quorum) → a ≡ Ok (Some q) → ⊥

short-none : {a : Added} → a ≡ Ok None → Short a
short-none {a} e q i = absurd (let p : ◌≡◌ {A = Added} (Ok None) (Ok (Some q)) = sym e ∙ i in let z : ◌≡◌ {A = ℕ} 0 1 = cc in omega arith)

short-no : {a : Added} {e : AddError} → a ≡ Err e → Short a
short-no {a} {e} f q i = absurd (let p : ◌≡◌ {A = Added} (Err e) (Ok (Some q)) = sym f ∙ i in let z : ◌≡◌ {A = ℕ} 0 1 = cc in omega arith)

-- ---- a vote

module _ (m : List ℕ) (own need : ℕ) (core : Core) (votes timeouts out : List ℕ) (at : ℕ) (hash : Hash) (round p stake : ℕ) {a : Added} {v : List ℕ}
    (k : AddedAs (vote_added votes round hash p stake need) (votes_after votes round hash p stake need) a v) where
  vote-counted : vote_tallied m own need (whole core votes timeouts) hash round p stake ≡ after_vote m own (whole core votes timeouts) hash round v a
  vote-counted = rw (k.answer, k.table) (vote-tallied-is m own need (whole core votes timeouts) hash round p stake)

  vote-stays : (b : Added) → a ≡ b → Short b → after_vote m own (whole core votes timeouts) hash round v b ≡ refused (added_number b) (whole core v timeouts)
  vote-stays (Err NoRoom) e h = rw (vote-no-room votes round hash p stake need k e)
  vote-stays (Err Used) e h = rw (vote-used votes round hash p stake need k e)
  vote-stays (Ok None) e h = refl
  vote-stays (Ok (Some q)) e h = absurd (h _ refl)

  pub vote-tallied-short : {u : Unit} → a ≡ Ok None
      → Reached certify_most (vote_tallied m own need (whole core votes timeouts) hash round p stake) out at (record { answer = Ok u; core = core; at = at }) v timeouts out
  vote-tallied-short e = rw (vote-counted, vote-stays a refl (short-none e), e) (reached-refused certify_most (Ok tt) core v timeouts out at)

  pub vote-tallied-refused : {e : AddError} {r : Refusal} → a ≡ Err e → code r ≡ added_number (Err e)
      → Reached certify_most (vote_tallied m own need (whole core votes timeouts) hash round p stake) out at (record { answer = Err r; core = core; at = at }) v timeouts out
  vote-tallied-refused {e} {r} i f = rw (vote-counted, vote-stays a refl (short-no i), i, ← f) (reached-refused certify_most (Err r) core v timeouts out at)

  pub vote-tallied-full : {q : Quorum} {c : Core} {v' t' out' : List ℕ} {next : ℕ} → a ≡ Ok (Some q)
      → Did certify_most (certified m own (whole core v timeouts) (qc_of hash round q.signers)) out at c v' t' out' next
      → Reached certify_most (vote_tallied m own need (whole core votes timeouts) hash round p stake) out at (record { answer = Ok tt; core = c; at = next }) v' t' out'
  vote-tallied-full e d = rw (vote-counted, e) (reached-done (Ok tt) d)

-- ---- a timeout

module _ (m : List ℕ) (own need : ℕ) (core : Core) (votes timeouts out : List ℕ) (at round p stake high : ℕ) {a : Added} {t : List ℕ}
    (k : AddedAs (timeout_added timeouts round p stake need) (timeouts_after timeouts round p stake need high) a t) where
  timeout-counted : timeout_tallied m own need (whole core votes timeouts) round p stake high ≡ after_timeout m own (whole core votes timeouts) round t a
  timeout-counted = rw (k.answer, k.table) (timeout-tallied-is m own need (whole core votes timeouts) round p stake high)

  timeout-stays : (b : Added) → a ≡ b → Short b → after_timeout m own (whole core votes timeouts) round t b ≡ refused (added_number b) (whole core votes t)
  timeout-stays (Err NoRoom) e h = rw (timeout-no-room timeouts round p stake need high k e)
  timeout-stays (Err Used) e h = rw (timeout-used timeouts round p stake need high k e)
  timeout-stays (Ok None) e h = refl
  timeout-stays (Ok (Some q)) e h = absurd (h _ refl)

  pub timeout-tallied-short : {u : Unit} → a ≡ Ok None
      → Reached time_out_most (timeout_tallied m own need (whole core votes timeouts) round p stake high) out at (record { answer = Ok u; core = core; at = at }) votes t out
  timeout-tallied-short e = rw (timeout-counted, timeout-stays a refl (short-none e), e) (reached-refused time_out_most (Ok tt) core votes t out at)

  pub timeout-tallied-refused : {e : AddError} {r : Refusal} → a ≡ Err e → code r ≡ added_number (Err e)
      → Reached time_out_most (timeout_tallied m own need (whole core votes timeouts) round p stake high) out at (record { answer = Err r; core = core; at = at }) votes t out
  timeout-tallied-refused {e} {r} i f = rw (timeout-counted, timeout-stays a refl (short-no i), i, ← f) (reached-refused time_out_most (Err r) core votes t out at)

  pub timeout-tallied-full : {q : Quorum} {c : Core} {v' t' out' : List ℕ} {next : ℕ} → a ≡ Ok (Some q)
      → Did time_out_most (timed_out m own (whole core votes t) round q.signers.0 (highs_at t q.row)) out at c v' t' out' next
      → Reached time_out_most (timeout_tallied m own need (whole core votes timeouts) round p stake high) out at (record { answer = Ok tt; core = c; at = next }) v' t' out'
  timeout-tallied-full e d = rw (timeout-counted, e) (reached-done (Ok tt) d)

-- ---- what is kept

module _ (total : ℕ) (m : List ℕ) (own need : ℕ) (low : need ≤ suc total) (s : State) (long : length s.votes ≡ votes_length) (wide : length s.timeouts ≡ timeouts_length) where
  pub vote-tallied-keeps : (hash : Hash) (round p stake : ℕ) → Keeps total s (vote_tallied m own need s hash round p stake).left.state
  vote-tallied-keeps hash round p stake = rw (vote-tallied-is m own need s hash round p stake) (cases (vote_added s.votes round hash p stake need))
    where
      same : length (votes_after s.votes round hash p stake need) ≡ votes_length
      same = votes-after-length s.votes round hash p stake need long

      counted : Keeps total s (with_votes s (votes_after s.votes round hash p stake need))
      counted =
          record {
            votes = same ∙ sym long;
            timeouts = refl;
            votes-light = votes-after-light s.votes round hash p stake need long total low;
            timeouts-light = λ h. h;
            round = le_refl _;
            high = le_refl _;
            voted = refl;
            committed = refl;
          }

      cases : (a : Added) → Keeps total s (after_vote m own s hash round (votes_after s.votes round hash p stake need) a).left.state
      cases (Err NoRoom) = keeps-none total s
      cases (Err Used) = keeps-none total s
      cases (Ok None) = counted
      cases (Ok (Some q)) = keeps_then counted (certified-keeps total (with_votes s (votes_after s.votes round hash p stake need)) same wide m own (qc_of hash round q.signers))

  pub timeout-tallied-keeps : (round p stake high : ℕ) → Keeps total s (timeout_tallied m own need s round p stake high).left.state
  timeout-tallied-keeps round p stake high = rw (timeout-tallied-is m own need s round p stake high) (cases (timeout_added s.timeouts round p stake need))
    where
      same : length (timeouts_after s.timeouts round p stake need high) ≡ timeouts_length
      same = timeouts-after-length s.timeouts round p stake need high wide

      counted : Keeps total s (with_timeouts s (timeouts_after s.timeouts round p stake need high))
      counted =
          record {
            votes = refl;
            timeouts = same ∙ sym wide;
            votes-light = λ h. h;
            timeouts-light = timeouts-after-light s.timeouts round p stake need high wide total low;
            round = le_refl _;
            high = le_refl _;
            voted = refl;
            committed = refl;
          }

      cases : (a : Added) → Keeps total s (after_timeout m own s round (timeouts_after s.timeouts round p stake need high) a).left.state
      cases (Err NoRoom) = keeps-none total s
      cases (Err Used) = keeps-none total s
      cases (Ok None) = counted
      cases (Ok (Some q)) =
          keeps_then counted
          (timed-out-keeps total (with_timeouts s (timeouts_after s.timeouts round p stake need high)) long same m own round q.signers.0
          (highs_at (timeouts_after s.timeouts round p stake need high) q.row))
