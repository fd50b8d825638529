-- What the definitions of TIMEOUT, TC and TICK say of early refusals, as theorems: no state changes, no output is written. No contract cites this file.
-- Assumes nothing.
--     timeout-early        a TIMEOUT that one of its checks refuses
--     timeout-answered     one that is answered otherwise than 0, 24 and 29, which are the answers of the tally
--     tc-early             a TC that is not answered 0
--     tick-early           a TICK above the highest round
use Prim.Native.Nat.{ℕ, ◌<◌}
use mathlib.Core.Bool.{Bool, true, false, cond}
use mathlib.Core.List.{List}
use mathlib.Core.Logic.{◌≢◌, ◌⊎◌, inl, inr}
use mathlib.Core.Path.{◌≡◌, refl}
use borrow.Author.Tests.{ne_eqb, lt-ltb}
use lib.Dec.{eqb}
use Rattle.std.specs.Prelude.{None, Some, Ok, Err}
use Rattle.aggregator.specs.Tally.{Added}
use Rattle.aggregator.specs.declared.tallies.AddError.TheVariants.{NoRoom, Used}
use Rattle.certificates.specs.Config.{stake_of, quorum_of}
use Rattle.certificates.specs.Messages.{embedded_check, tc_check}
use Rattle.certificates.specs.Error.{done, round_too_high, authority_reuse, qc_requires_quorum, tc_requires_quorum, tallies_full, number_of}
use Rattle.trace.specs.declared.events.Timeout.{Timeout}
use Rattle.certificates.specs.Numbers.{round_max}
use Rattle.trace.specs.Layout.{timeout_qc, tc_body, qc_part, tc_part}
use Rattle.aggregator.specs.Tallies.{timeout_added, timeouts_after}
use Rattle.moves.specs.State.{State}
use Rattle.moves.specs.Outcome.{Step, Outcome, quiet, refused}
use Rattle.moves.specs.Outcome as outcome
use Rattle.moves.specs.Moves.{taken_qc}
use Rattle.moves.specs.Tallied.{qc_of, after_timeout, timeout_tallied}
use Rattle.moves.proofs.TallyLaws.{timeout-tallied-is}
use Rattle.handlers.specs.Sound.{first, signers_of}
use Rattle.handlers.specs.Timeouts.{timeout_check, timeout_taken, timeout_with, handled_timeout, tc_taken, stale_if, tc_with, handled_tc, handled_tick}

-- what the early checks of a TIMEOUT answer
abbrev pub timeout_number : List ℕ → State → Timeout → List ℕ → ℕ
timeout_number m s t r = first (timeout_check m s.core.round.0 t) (number_of (embedded_check m (quorum_of m) (qc_part r timeout_qc)) qc_requires_quorum)

pub timeout-early : (m : List ℕ) (own : ℕ) (s : State) (t : Timeout) (r : List ℕ) → timeout_number m s t r ≢ 0 → handled_timeout m own s t r ≡ refused (timeout_number m s t r) s
unfolding handled_timeout timeout_with
timeout-early m own s t r h = rw (ne_eqb (timeout_number m s t r) 0 h)

-- what a TIMEOUT is answered once its QC is taken
pub Late : ℕ → Type 0
Late n = (n ≡ done) ⊎ ((n ≡ authority_reuse) ⊎ (n ≡ tallies_full))

after-late : (m : List ℕ) (own : ℕ) (s : State) (round : ℕ) (timeouts : List ℕ) (a : Added) → Late (after_timeout m own s round timeouts a).answer
unfolding Late
after-late m own s round timeouts (Err NoRoom) = inr (inr refl)
after-late m own s round timeouts (Err Used) = inr (inl refl)
after-late m own s round timeouts (Ok None) = inl refl
after-late m own s round timeouts (Ok (Some q)) = inl refl

tallied-late : (m : List ℕ) (own need : ℕ) (s : State) (round p stake high : ℕ) → Late (timeout_tallied m own need s round p stake high).answer
tallied-late m own need s round p stake high =
    rw timeout-tallied-is (after-late m own s round (timeouts_after s.timeouts round p stake need high) (timeout_added s.timeouts round p stake need))

check-late : (b : Bool) (n : ℕ) (s : State) (o : Outcome) → Late o.answer → (Late (cond b o (refused n s)).answer → ⊥) → (cond b o (refused n s)).left ≡ quiet s
check-late true n s o k h = absurd (h k)
check-late false n s o k h = refl

pub timeout-answered : (m : List ℕ) (own : ℕ) (s : State) (t : Timeout) (r : List ℕ) → (Late (handled_timeout m own s t r).answer → ⊥) → (handled_timeout m own s t r).left ≡ quiet s
unfolding handled_timeout timeout_with timeout_taken
timeout-answered m own s t r =
    let signers = signers_of (embedded_check m (quorum_of m) (qc_part r timeout_qc)) in
    let u = (taken_qc s (qc_of t.qc_hash t.qc_round.0 signers)).state in
    check-late (eqb (timeout_number m s t r) 0) (timeout_number m s t r) s (timeout_taken m own s t signers)
    (tallied-late m own (quorum_of m) u t.round.0 t.author.0 (stake_of m t.author.0) t.qc_round.0)

check-early : (b : Bool) (n : ℕ) (s : State) (a : Step) → (cond b (outcome.done 0 a) (refused n s)).answer ≢ 0 → (cond b (outcome.done 0 a) (refused n s)).left ≡ quiet s
check-early true n s a h = absurd (h refl)
check-early false n s a h = refl

pub tc-early : (m : List ℕ) (own : ℕ) (s : State) (round : ℕ) (r : List ℕ) → (handled_tc m own s round r).answer ≢ 0 → (handled_tc m own s round r).left ≡ quiet s
unfolding handled_tc tc_with
tc-early m own s round r =
    let tc = tc_check m (quorum_of m) (tc_part r tc_body) in
    let n = first (number_of tc tc_requires_quorum) (stale_if round s.core.round.0) in
    check-early (eqb n 0) n s (tc_taken m own s round (signers_of tc) (tc_part r tc_body))

pub tick-early : (m : List ℕ) (own : ℕ) (s : State) → round_max < s.core.round.0 → handled_tick m own s ≡ refused round_too_high s
unfolding handled_tick
tick-early m own s h = rw (lt-ltb round_max s.core.round.0 h)
