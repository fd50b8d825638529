-- Laws of TC: one for each way out. Assumes nothing.
--     tc-taken                             `take_tc`
--     check-tc, check-tc-stale, check-tc-passed   `check_received_tc`
--     tc-refused, tc-passed                `handle_tc`
use Prim.Native.Nat.{ℕ, ◌≤◌, ◌<◌}
use mathlib.Core.List.{List}
use mathlib.Core.Path.{◌≡◌}
use borrow.Author.Tests.{lt-ltb, le-ltb}
use Rattle.std.specs.Prelude.{Result, Ok, Err}
use Rattle.certificates.specs.declared.numbers.Signers.{Signers}
use Rattle.certificates.specs.declared.error.CertificateError.{CertificateError}
use Rattle.certificates.specs.Config.{quorum_of}
use Rattle.certificates.specs.Messages.{tc_check}
use Rattle.certificates.specs.declared.error.Refusal.{Refusal}
use Rattle.certificates.specs.declared.error.Refusal.TheVariants as refusal
use Rattle.certificates.specs.Error.{code, tc_requires_quorum, number_of}
use Rattle.trace.specs.Layout.{tc_body, tc_part, highs_of}
use Rattle.outputs.specs.Records.{make_with_most}
use Rattle.outputs.specs.Put.{Wrote}
use Rattle.moves.specs.declared.state.Core.{Core}
use Rattle.moves.specs.State.{State, whole}
use Rattle.moves.specs.Outcome.{Did, Reached}
use Rattle.moves.specs.Moves.{advanced, make_with_of, advance_most}
use Rattle.moves.proofs.Outcomes.{did-wrote, did_then, reached-done, reached-checked-refused, reached-checked-passed}
use Rattle.handlers.specs.Sound.{signers_of, Answers}
use Rattle.handlers.specs.Timeouts.{tc_taken, tc_event_number, tc_with, handled_tc, handle_tc_most}
use Rattle.handlers.proofs.HandlerLaws.{passes-first, passes-on, passes-no, passes-yes, found-no, found-yes}

-- ---- the TC is taken

module _ (m : List ℕ) (own : ℕ) (core : Core) (votes timeouts : List ℕ) (round : ℕ) (names : Signers) (part : List ℕ) where
  pub tc-taken : {at mid next : ℕ} {n : Core} {out out' out'' v t highs : List ℕ} → Did advance_most (advanced (whole core votes timeouts) round) out at n v t out' mid
      → highs ≡ highs_of part → Wrote make_with_most (make_with_of m own n round names.0 highs) out' mid out'' next
      → Did handle_tc_most (tc_taken m own (whole core votes timeouts) round names part) out at n v t out'' next
  unfolding tc_taken
  tc-taken {n = n} {v = v} {t = t} p e w =
      did_then (λ (u : State). record { state = u; outs = make_with_of m own u.core round names.0 (highs_of part) }) p (did-wrote n v t (rw e at w))

-- ---- the checks

module _ (current round : ℕ) {c : Result Signers CertificateError} where
  pub check-tc : {e : CertificateError} (f : Refusal) → c ≡ Err e → code f ≡ number_of (Err e) tc_requires_quorum → Answers (tc_event_number current round c) (signers_of c) (Err f)
  check-tc f i n = passes-first _ f (found-no tc_requires_quorum f i n)

  module _ {y : Signers} (i : c ≡ Ok y) where
    pub check-tc-stale : round < current → Answers (tc_event_number current round c) (signers_of c) (Err refusal.Stale)
    check-tc-stale h = passes-on (found-yes tc_requires_quorum i).0 (passes-no refusal.Stale (rw (lt-ltb _ _ h)))

    pub check-tc-passed : current ≤ round → Answers (tc_event_number current round c) (signers_of c) (Ok y)
    check-tc-passed h = let p = found-yes tc_requires_quorum i in passes-on p.0 (passes-yes (rw (le-ltb _ _ h)) p.1)

-- ---- the handler

module _ (m : List ℕ) (own : ℕ) (core : Core) (votes timeouts out : List ℕ) (round : ℕ) (r : List ℕ) {need : ℕ} {part : List ℕ} {x : Result Signers Refusal} (e : need ≡ quorum_of m)
    (p : part ≡ tc_part r tc_body) (c : Answers (tc_event_number core.round.0 round (tc_check m need part)) (signers_of (tc_check m need part)) x) where
  pub tc-refused : {f : Refusal} → x ≡ Err f → Reached handle_tc_most (handled_tc m own (whole core votes timeouts) round r) out 0 (record { answer = Err f; core = core; at = 0 }) votes timeouts out
  unfolding handled_tc tc_with
  tc-refused {f} i = rw (← e, ← p, ← c.refused f i) (reached-checked-refused handle_tc_most f core votes timeouts out 0 _)

  pub tc-passed : {y : Signers} {n : Core} {v t out' : List ℕ} {next : ℕ} → x ≡ Ok y
      → Did handle_tc_most (tc_taken m own (whole core votes timeouts) round y part) out 0 n v t out' next
      → Reached handle_tc_most (handled_tc m own (whole core votes timeouts) round r) out 0 (record { answer = Ok tt; core = n; at = next }) v t out'
  unfolding handled_tc tc_with
  tc-passed {y} i d = let q = c.passed y i in rw (← e, ← p) (reached-checked-passed _ (whole core votes timeouts) q.0 (rw (← q.1) (reached-done (Ok tt) d)))
