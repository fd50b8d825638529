-- Laws of TIMEOUT: one for each way out, and what the checks give once they are passed. Assumes nothing.
--     timeout-stale, timeout-author                        `timeout_check`
--     timeout-taken                                        `take_timeout`
--     timeout-refused, timeout-passed                      `handle_timeout`
--     timeout-member                                       the author of a timeout that passed its checks is a member
use Prim.Native.Nat.{ℕ, ◌≤◌, ◌<◌}
use mathlib.Core.Bool.{Bool, true, false, cond}
use mathlib.Core.List.{List}
use mathlib.Core.Path.{◌≡◌, ◌∙◌}
use native.Mathlib.Omega.{arith}
use borrow.Author.Tests.{lt-ltb, le-ltb}
use lib.Dec.{ltb}
use lib.ListN.{length}
use Rattle.std.specs.Prelude.{Result, Ok, Err}
use Rattle.certificates.specs.declared.numbers.Signers.{Signers}
use Rattle.certificates.specs.declared.error.CertificateError.{CertificateError}
use Rattle.certificates.specs.declared.numbers.Stake.{Stake}
use Rattle.certificates.specs.declared.error.AuthorError.{AuthorError}
use Rattle.certificates.specs.Config.{stake_of, quorum_of}
use Rattle.certificates.specs.Messages.{embedded_check, author_check}
use Rattle.certificates.specs.declared.error.Refusal.{Refusal}
use Rattle.certificates.specs.Error.{code, number, stale, qc_requires_quorum, number_of, author_number}
use Rattle.trace.specs.declared.events.Timeout.{Timeout}
use Rattle.trace.specs.Layout.{timeout_qc, qc_part}
use Rattle.moves.specs.declared.state.Core.{Core}
use Rattle.moves.specs.declared.state.Ran.{Ran}
use Rattle.moves.specs.State.{State, whole}
use Rattle.moves.specs.Outcome.{Did, Reached}
use Rattle.moves.specs.Moves.{taken_qc, advance_most, time_out_most}
use Rattle.moves.specs.Tallied.{qc_of, timeout_tallied}
use Rattle.moves.proofs.Outcomes.{reached-after, reached-checked-refused, reached-checked-passed}
use Rattle.handlers.specs.Sound.{signers_of, Answers}
use Rattle.handlers.specs.Timeouts.{timeout_check, timeout_qc_found, timeout_number, timeout_taken, timeout_with, handled_timeout, handle_timeout_most}
use Rattle.handlers.proofs.HandlerLaws.{first-both, author-member, answer-no, answer-yes, passes-first, passes-on, passes-no, passes-yes, found-no, found-yes}

-- ---- the checks of the timeout itself

module _ (m : List ℕ) (current : ℕ) (t : Timeout) where
  pub timeout-stale : t.round.0 < current → stale ≡ timeout_check m current t
  unfolding timeout_check
  timeout-stale h = rw (lt-ltb _ _ h)

  pub timeout-author : {a : Result Stake AuthorError} {n : ℕ} → current ≤ t.round.0 → a ≡ author_check m t.author.0 t.verdict → n ≡ author_number a → n ≡ timeout_check m current t
  unfolding timeout_check
  timeout-author h e f = rw (le-ltb _ _ h, ← e) f

  not-stale : (b : Bool) (x : ℕ) → cond b stale x ≡ 0 → x ≡ 0
  not-stale true x e = absurd (omega arith)
  not-stale false x e = e

  pub timeout-member : timeout_check m current t ≡ 0 → t.author.0 < length m
  unfolding timeout_check
  timeout-member z = author-member m t.author.0 t.verdict (not-stale (ltb t.round.0 current) (author_number (author_check m t.author.0 t.verdict)) z)

-- ---- the checks

module _ (m : List ℕ) (current : ℕ) (t : Timeout) (r : List ℕ) {a : Result Unit Refusal} (e : number a ≡ timeout_check m current t) where
  pub check-timeout : {f : Refusal} → a ≡ Err f → Answers (timeout_number m current t (timeout_qc_found m r)) (signers_of (timeout_qc_found m r)) (Err f)
  check-timeout i = passes-first _ _ (answer-no e i)

  module _ {u : Unit} (z : a ≡ Ok u) {need : ℕ} {part : List ℕ} {x : Result Signers CertificateError} (q : need ≡ quorum_of m) (p : part ≡ qc_part r timeout_qc) (w : x ≡ embedded_check m need part) where
    found : timeout_qc_found m r ≡ x
    found = rw (w, q, p)

    pub check-timeout-qc : {c : CertificateError} (f : Refusal) → x ≡ Err c → code f ≡ number_of (Err c) qc_requires_quorum
        → Answers (timeout_number m current t (timeout_qc_found m r)) (signers_of (timeout_qc_found m r)) (Err f)
    check-timeout-qc f i n = passes-on (answer-yes e z) (passes-no f (found-no qc_requires_quorum f (found ∙ i) n))

    pub check-timeout-passed : {y : Signers} → x ≡ Ok y → Answers (timeout_number m current t (timeout_qc_found m r)) (signers_of (timeout_qc_found m r)) (Ok y)
    check-timeout-passed i = let p = found-yes qc_requires_quorum (found ∙ i) in passes-on (answer-yes e z) (passes-yes p.0 p.1)

-- ---- the QC is taken, and the timeout counted

module _ (m : List ℕ) (own : ℕ) (core : Core) (votes timeouts : List ℕ) (t : Timeout) (signers : Signers) where
  pub timeout-taken : {need stake at mid : ℕ} {n : Core} {out out' out'' v w v' w' : List ℕ} {r : Ran} → need ≡ quorum_of m → stake ≡ stake_of m t.author.0
      → Did advance_most (taken_qc (whole core votes timeouts) (qc_of t.qc_hash t.qc_round.0 signers)) out at n v w out' mid
      → Reached time_out_most (timeout_tallied m own need (whole n v w) t.round.0 t.author.0 stake t.qc_round.0) out' mid r v' w' out''
      → Reached handle_timeout_most (timeout_taken m own (whole core votes timeouts) t signers) out at r v' w' out''
  unfolding timeout_taken
  timeout-taken e f p q =
      reached-after (λ (u : State). timeout_tallied m own (quorum_of m) u t.round.0 t.author.0 (stake_of m t.author.0) t.qc_round.0) p
      (rw (e, f) at q)

-- ---- the handler

module _ (m : List ℕ) (own : ℕ) (core : Core) (votes timeouts out : List ℕ) (t : Timeout) (r : List ℕ) {x : Result Signers Refusal}
    (c : Answers (timeout_number m core.round.0 t (timeout_qc_found m r)) (signers_of (timeout_qc_found m r)) x) where
  pub timeout-refused : {f : Refusal} → x ≡ Err f
      → Reached handle_timeout_most (handled_timeout m own (whole core votes timeouts) t r) out 0 (record { answer = Err f; core = core; at = 0 }) votes timeouts out
  unfolding handled_timeout timeout_with
  timeout-refused {f} i = rw (← c.refused f i) (reached-checked-refused handle_timeout_most f core votes timeouts out 0 _)

  module _ {y : Signers} (i : x ≡ Ok y) where
    pub timeout-known : t.author.0 < length m
    timeout-known = timeout-member m core.round.0 t (first-both (timeout_check m core.round.0 t) _ (c.passed y i).0).0

    pub timeout-passed : {a : Ran} {v w out' : List ℕ} → Reached handle_timeout_most (timeout_taken m own (whole core votes timeouts) t y) out 0 a v w out'
        → Reached handle_timeout_most (handled_timeout m own (whole core votes timeouts) t r) out 0 a v w out'
    unfolding handled_timeout timeout_with
    timeout-passed d = let q = c.passed y i in reached-checked-passed _ (whole core votes timeouts) q.0 (rw (← q.1) d)
