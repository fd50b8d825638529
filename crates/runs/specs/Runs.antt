-- One event of a replica, and the records that are written. What a replica does from its START on is in `Courses`.
--     Event              the bytes of a record, and the room that is lent for its output
--     step_on w e        one event
--     Begun w e          the event e is a START that was taken
--     Written a rs       the record a stands in the list rs
--     Behind a b rs      in the list rs the record b stands behind the record a
--     only p rs          the records of a list that pass the test p, in order
--     signed_in rs       the VOTEs and TIMEOUTs of a list, in order (is_signed)
--     delivered_in rs    its COMMITs (is_commit)
--     round_of, voted_of, committed_of, high_of w  a world's round, last voted and last committed round, and the round of its high QC
use Rattle.std.specs.Prelude.{ℕ, Bool, true, false, cond, List, [], ◌∷◌, ◌++◌, ◌≡◌, Some}
use Rattle.trace.specs.declared.events.Kind.{Kind}
use Rattle.trace.specs.Form.{form_of}
use Rattle.outputs.specs.Records.{Rec, vote, timeout, tc, make, make_with, commit, sync, clean_proposer, clean_mempool, timer_reset, answer}
use Rattle.replica.specs.Step.{World, Result, stepped}

pub record Event : Type 0 where
  pub room : ℕ
  pub bytes : List ℕ

abbrev pub step_on : World → Event → Result
step_on w e = stepped w e.room e.bytes

-- ---- START

-- START's only answer that is no refusal is 0
pub record Begun (w : World) (e : Event) : Type 0 where
  pub start : form_of e.bytes ≡ Some Kind.Start
  pub taken : (step_on w e).answer ≡ 0

-- ---- records in a list

pub record Written (a : Rec) (rs : List Rec) : Type 0 where
  pub before : List Rec
  pub rest : List Rec
  pub is : rs ≡ before ++ (a ∷ rest)

pub record Behind (a b : Rec) (rs : List Rec) : Type 0 where
  pub before : List Rec
  pub between : List Rec
  pub rest : List Rec
  pub is : rs ≡ before ++ (a ∷ between ++ (b ∷ rest))

unfoldable pub only : (Rec → Bool) → List Rec → List Rec
only p [] = []
only p (r ∷ rs) = cond (p r) (r ∷ only p rs) (only p rs)

abbrev pub is_signed : Rec → Bool
is_signed (vote to hash round) = true
is_signed (timeout round high) = true
is_signed (tc round names highs) = false
is_signed (make round high) = false
is_signed (make_with round high of names highs) = false
is_signed (commit digest round) = false
is_signed (sync parent block author) = false
is_signed (clean_proposer b0 b1 block) = false
is_signed (clean_mempool round) = false
is_signed timer_reset = false
is_signed (answer n) = false

abbrev pub is_commit : Rec → Bool
is_commit (vote to hash round) = false
is_commit (timeout round high) = false
is_commit (tc round names highs) = false
is_commit (make round high) = false
is_commit (make_with round high of names highs) = false
is_commit (commit digest round) = true
is_commit (sync parent block author) = false
is_commit (clean_proposer b0 b1 block) = false
is_commit (clean_mempool round) = false
is_commit timer_reset = false
is_commit (answer n) = false

abbrev pub signed_in : List Rec → List Rec
signed_in rs = only is_signed rs

abbrev pub delivered_in : List Rec → List Rec
delivered_in rs = only is_commit rs

-- ---- numbers of a world

abbrev pub round_of : World → ℕ
round_of w = w.state.core.round.0

abbrev pub voted_of : World → ℕ
voted_of w = w.state.core.last_voted_round.0

abbrev pub committed_of : World → ℕ
committed_of w = w.state.core.last_committed_round.0

abbrev pub high_of : World → ℕ
high_of w = w.state.core.high_qc.round.0
