-- What holds of every course, so of every run that is never restarted, whatever bytes, verdicts and lent memory come. Assumes nothing.
--     votes-rise                  demand 3: "In a run, vote rounds strictly rise"
--     no-vote-after-timeout       "none follows that round's timeout"
--     deliveries-rise             "and delivered rounds strictly rise"
--     start-once                  no START is taken in a course but its first
--     high-below-round, voted-within-round      the high QC is below the round, and last voted not above it
--     votes-recorded, timeouts-recorded, deliveries-recorded      last voted and last committed are not below any round in what was written
use Prim.Native.Nat.{ℕ, ◌≤◌, ◌<◌}
use mathlib.Core.List.{List}
use mathlib.Core.Path.{◌≡◌, refl}
use Rattle.std.specs.Prelude.{Some}
use Rattle.certificates.specs.declared.numbers.Hash.{Hash}
use Rattle.certificates.specs.declared.messages.QC.{QC}
use Rattle.certificates.specs.Error.{started_again}
use Rattle.trace.specs.declared.events.Kind.{Kind}
use Rattle.trace.specs.Form.{form_of}
use Rattle.outputs.specs.Records.{Rec, vote, timeout, commit}
use Rattle.replica.specs.Step.{refused_in}
use Rattle.replica.proofs.Theorems.{again}
use Rattle.runs.specs.Courses.{Course, end, outputs}
use Rattle.runs.specs.Runs.{Event, step_on, Written, Behind, is_signed, is_commit, round_of, voted_of, committed_of, high_of}
use Rattle.runs.proofs.Lists.{written-only, behind-only}
use Rattle.runs.proofs.Marks.{Mark, above, level_of, Marked, marked-behind, marked-within}
use Rattle.runs.proofs.Rounds.{vote_mark, commit_mark, course-started, course-voted, course-committed, course-ordered}

-- a record behind another in a list that is in order
in_order : (f : Rec → Mark) (a b n : ℕ) {rs : List Rec} (x y : Rec) → Marked f a rs b → f y ≡ above n → Behind x y rs → level_of (f x) < n
in_order f a b n x y m e k = marked-behind f a b n k.before k.between k.rest x y e (rw k.is at m)

up_to : (f : Rec → Mark) (a b : ℕ) {rs : List Rec} (x : Rec) → Marked f a rs b → Written x rs → level_of (f x) ≤ b
up_to f a b x m k = marked-within f a b k.before k.rest x (rw k.is at m)

module _ (r : Course) where
  -- Of two VOTEs in a course, the one behind has the higher round.
  pub votes-rise : {to to' n n' : ℕ} {h h' : Hash} → Behind (vote to h n) (vote to' h' n') (outputs r) → n < n'
  votes-rise {to} {to'} {n} {n'} {h} {h'} k =
      in_order vote_mark 0 (voted_of (end r)) n' (vote to h n) (vote to' h' n') (course-voted r) refl (behind-only is_signed refl refl k)

  -- A VOTE behind a TIMEOUT has a higher round than it.
  pub no-vote-after-timeout : {t to n : ℕ} {q : QC} {h : Hash} → Behind (timeout t q) (vote to h n) (outputs r) → t < n
  no-vote-after-timeout {t} {to} {n} {q} {h} k =
      in_order vote_mark 0 (voted_of (end r)) n (timeout t q) (vote to h n) (course-voted r) refl (behind-only is_signed refl refl k)

  -- Of two COMMITs in a course, the one behind has the higher round.
  pub deliveries-rise : {n n' : ℕ} {d d' : Hash} → Behind (commit d n) (commit d' n') (outputs r) → n < n'
  deliveries-rise {n} {n'} {d} {d'} k =
      in_order commit_mark 0 (committed_of (end r)) n' (commit d n) (commit d' n') (course-committed r) refl (behind-only is_commit refl refl k)

  -- Last voted is not below any round voted for or timed out.
  pub votes-recorded : {to n : ℕ} {h : Hash} → Written (vote to h n) (outputs r) → n ≤ voted_of (end r)
  votes-recorded {to} {n} {h} k = up_to vote_mark 0 (voted_of (end r)) (vote to h n) (course-voted r) (written-only is_signed refl k)

  pub timeouts-recorded : {t : ℕ} {q : QC} → Written (timeout t q) (outputs r) → t ≤ voted_of (end r)
  timeouts-recorded {t} {q} k = up_to vote_mark 0 (voted_of (end r)) (timeout t q) (course-voted r) (written-only is_signed refl k)

  -- Last committed is not below any round delivered.
  pub deliveries-recorded : {n : ℕ} {d : Hash} → Written (commit d n) (outputs r) → n ≤ committed_of (end r)
  deliveries-recorded {n} {d} k = up_to commit_mark 0 (committed_of (end r)) (commit d n) (course-committed r) (written-only is_commit refl k)

  -- A START that comes later is refused with 34, and changes nothing.
  pub start-once : (e : Event) → form_of e.bytes ≡ Some Kind.Start → step_on (end r) e ≡ refused_in started_again (end r)
  start-once e k = again (end r) e.room e.bytes k (course-started r)

  -- The high QC is below the round, so the own timeout that a TICK counts carries a QC below its round.
  pub high-below-round : high_of (end r) < round_of (end r)
  high-below-round = (course-ordered r).high

  -- Last voted is not above the round.
  pub voted-within-round : voted_of (end r) ≤ round_of (end r)
  voted-within-round = (course-ordered r).voted
