-- The rounds of what is signed and delivered, from stage to stage: last voted and last committed are marks that the records of a course move up. Assumes nothing.
--     vote_mark r, commit_mark r       what a record does to last voted, and to last committed
--     step-voted, step-committed       one event, from a world that counts as started
--     next-core, next-started          what a stage leaves, restart included: the part by value of its event, and a world that counts as started
--     stages-started                   after any stages the world counts as started
--     stages-voted, stages-committed   any stages
--     Ordered w, next-ordered, stages-ordered    the high QC is below the round, and last voted not above it
--     course-starts, origin-started, origin-ordered, course-started, course-voted, course-committed, course-ordered    a course
use Prim.Native.Nat.{ℕ, ◌≤◌, ◌<◌}
use native.Mathlib.Omega.{arith}
use mathlib.Core.List.{List, [], ◌∷◌, map}
use mathlib.Core.Path.{◌≡◌, refl, sym, ap}
use Rattle.certificates.specs.declared.numbers.Stake.{Stake}
use Rattle.trace.specs.declared.events.Block.{Block}
use Rattle.outputs.specs.Records.{Rec, vote, timeout, tc, make, make_with, commit, sync, clean_proposer, clean_mempool, timer_reset, answer}
use Rattle.synchronizer.specs.declared.table.Slot.{Slot}
use Rattle.synchronizer.specs.Settle.{commit_rec}
use Rattle.synchronizer.proofs.WalkLaws.{Rising}
use Rattle.moves.specs.declared.state.Core.{Core}
use Rattle.moves.specs.Outcome.{Step}
use Rattle.replica.specs.Step.{World, Result}
use Rattle.runs.specs.Courses.{Stage, next, world_after, outs_of, Course, origin, end, outputs}
use Rattle.runs.specs.Runs.{Event, step_on, only, is_signed, is_commit, signed_in, delivered_in, round_of, voted_of, committed_of, high_of}
use Rattle.runs.proofs.Lists.{only-append}
use Rattle.runs.proofs.Marks.{Mark, skip, above, reach, Marked, marked_append}
use Rattle.runs.proofs.Plain.{round_in, high_in}
use Rattle.runs.proofs.Lawful.{voted_in, committed_in, Signs, nothing, ballot, expiry, Delivers}
use Rattle.runs.proofs.Blocks.{deliveries-rising}
use Rattle.runs.proofs.Steps.{Started, step-lawful, started-again, Starts, starts, start-started, start-silent}
use Rattle.runs.proofs.Restart.{leaves-core, leaves-started}

-- a VOTE stands above last voted and becomes it; a TIMEOUT raises it
abbrev pub vote_mark : Rec → Mark
vote_mark (vote to hash round) = above round
vote_mark (timeout round high) = reach round
vote_mark (tc round names highs) = skip
vote_mark (make round high) = skip
vote_mark (make_with round high of names highs) = skip
vote_mark (commit digest round) = skip
vote_mark (sync parent block author) = skip
vote_mark (clean_proposer b0 b1 block) = skip
vote_mark (clean_mempool round) = skip
vote_mark timer_reset = skip
vote_mark (answer n) = skip

-- a COMMIT stands above last committed and becomes it
abbrev pub commit_mark : Rec → Mark
commit_mark (vote to hash round) = skip
commit_mark (timeout round high) = skip
commit_mark (tc round names highs) = skip
commit_mark (make round high) = skip
commit_mark (make_with round high of names highs) = skip
commit_mark (commit digest round) = above round
commit_mark (sync parent block author) = skip
commit_mark (clean_proposer b0 b1 block) = skip
commit_mark (clean_mempool round) = skip
commit_mark timer_reset = skip
commit_mark (answer n) = skip

-- ---- one event

signs-marked : {b : Block} {q : ℕ} {c : Core} {a : Step} → Signs b q c a → Marked vote_mark (voted_in c) (signed_in a.outs) (voted_in a.state.core)
unfolding Marked
signs-marked (nothing e v) = rw e (sym v)
signs-marked (ballot k) = rw k.is (k.newer, sym k.now)
signs-marked (expiry e v) = rw e (tt, sym v)

rising-marked : (low high : ℕ) (bs : List Slot) → Rising low bs high → Marked commit_mark low (map commit_rec bs) high
unfolding Marked Rising
rising-marked low high [] e = e
rising-marked low high (b ∷ bs) h = (h.0, rising-marked b.round.0 high bs h.1)

delivers-marked : {b : Slot} {t t' : List Slot} {low : ℕ} {a : Step} → Delivers b t t' low a → Marked commit_mark low (delivered_in a.outs) (committed_in a.state.core)
delivers-marked {low = low} {a = a} d = rw d.are (rising-marked low (committed_in a.state.core) d.blocks (deliveries-rising d.by))

module _ (w : World) (e : Event) (t : Stake) (s : Started w t) where
  pub step-voted : Marked vote_mark (voted_of w) (signed_in (step_on w e).outs) (voted_of (step_on w e).world)
  step-voted = signs-marked (step-lawful w e t s).lawful.signs

  pub step-committed : Marked commit_mark (committed_of w) (delivered_in (step_on w e).outs) (committed_of (step_on w e).world)
  step-committed = delivers-marked (step-lawful w e t s).lawful.delivers

-- ---- one stage

module _ (w : World) (g : Stage) where
  pub next-core : (next w g).state.core ≡ (step_on w g.event).world.state.core
  next-core = leaves-core g (step_on w g.event).world

  pub next-started : (t : Stake) → Started w t → Started (next w g) t
  next-started t s = leaves-started g (step_on w g.event).world t (started-again w g.event t s)

-- ---- any stages

pub stages-started : (w : World) (ss : List Stage) (t : Stake) → Started w t → Started (world_after w ss) t
unfolding world_after
stages-started w [] t s = s
stages-started w (g ∷ gs) t s = stages-started (next w g) gs t (next-started w g t s)

pub stages-voted : (w : World) (ss : List Stage) (t : Stake) → Started w t → Marked vote_mark (voted_of w) (signed_in (outs_of w ss)) (voted_of (world_after w ss))
unfolding world_after outs_of only Marked
stages-voted w [] t s = refl
stages-voted w (g ∷ gs) t s =
    let u = next w g in
    let e : voted_of (step_on w g.event).world ≡ voted_of u = ap voted_in (sym (next-core w g)) in
    rw (only-append is_signed (step_on w g.event).outs (outs_of u gs))
    (marked_append vote_mark (voted_of w) (voted_of u) (voted_of (world_after u gs)) (signed_in (step_on w g.event).outs) (signed_in (outs_of u gs)) (rw e at (step-voted w g.event t s))
    (stages-voted u gs t (next-started w g t s)))

pub stages-committed : (w : World) (ss : List Stage) (t : Stake) → Started w t → Marked commit_mark (committed_of w) (delivered_in (outs_of w ss)) (committed_of (world_after w ss))
unfolding world_after outs_of only Marked
stages-committed w [] t s = refl
stages-committed w (g ∷ gs) t s =
    let u = next w g in
    let e : committed_of (step_on w g.event).world ≡ committed_of u = ap committed_in (sym (next-core w g)) in
    rw (only-append is_commit (step_on w g.event).outs (outs_of u gs))
    (marked_append commit_mark (committed_of w) (committed_of u) (committed_of (world_after u gs)) (delivered_in (step_on w g.event).outs) (delivered_in (outs_of u gs)) (rw e at (step-committed w g.event t s))
    (stages-committed u gs t (next-started w g t s)))

pub record Ordered (w : World) : Type 0 where
  pub high : high_of w < round_of w
  pub voted : voted_of w ≤ round_of w

pub next-ordered : (w : World) (g : Stage) (t : Stake) → Started w t → Ordered w → Ordered (next w g)
next-ordered w g t s h =
    let k = (step-lawful w g.event t s).lawful in
    let e = next-core w g in
    let n : round_of (next w g) ≡ round_of (step_on w g.event).world = ap round_in e in
    let v : voted_of (next w g) ≡ voted_of (step_on w g.event).world = ap voted_in e in
    let q : high_of (next w g) ≡ high_of (step_on w g.event).world = ap high_in e in
    record { high = omega (arith, k.below h.high); voted = omega (arith, k.within h.voted) }

pub stages-ordered : (w : World) (ss : List Stage) (t : Stake) → Started w t → Ordered w → Ordered (world_after w ss)
unfolding world_after
stages-ordered w [] t s h = h
stages-ordered w (g ∷ gs) t s h = stages-ordered (next w g) gs t (next-started w g t s) (next-ordered w g t s h)

-- ---- a course

module _ (r : Course) where
  pub course-starts : Starts r.lent r.start
  course-starts = starts r.lent r.start r.begun

  pub origin-started : Started (origin r) course-starts.total
  origin-started = start-started r.lent r.start course-starts

  pub course-started : Started (end r) course-starts.total
  course-started = stages-started (origin r) r.stages course-starts.total origin-started

  pub course-voted : Marked vote_mark 0 (signed_in (outputs r)) (voted_of (end r))
  course-voted =
      let v : voted_of (origin r) ≡ 0 = ap (λ (x : Result). voted_of x.world) course-starts.is in
      let k = stages-voted (origin r) r.stages course-starts.total origin-started in
      rw (only-append is_signed (step_on r.lent r.start).outs (outs_of (origin r) r.stages), (start-silent r.lent r.start course-starts).signs) (rw v at k)

  pub course-committed : Marked commit_mark 0 (delivered_in (outputs r)) (committed_of (end r))
  course-committed =
      let v : committed_of (origin r) ≡ 0 = ap (λ (x : Result). committed_of x.world) course-starts.is in
      let k = stages-committed (origin r) r.stages course-starts.total origin-started in
      rw (only-append is_commit (step_on r.lent r.start).outs (outs_of (origin r) r.stages), (start-silent r.lent r.start course-starts).delivers) (rw v at k)

  pub origin-ordered : Ordered (origin r)
  origin-ordered =
      let v : voted_of (origin r) ≡ 0 = ap (λ (x : Result). voted_of x.world) course-starts.is in
      let h : high_of (origin r) ≡ 0 = ap (λ (x : Result). high_of x.world) course-starts.is in
      let n : round_of (origin r) ≡ 1 = ap (λ (x : Result). round_of x.world) course-starts.is in
      record { high = omega arith; voted = omega arith }

  pub course-ordered : Ordered (end r)
  course-ordered = stages-ordered (origin r) r.stages course-starts.total origin-started origin-ordered
