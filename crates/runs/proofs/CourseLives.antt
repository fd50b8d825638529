-- The life of a course. Its moment 0 is START, moment i + 1 the event of its stage i. Assumes nothing.
--     world_at, event_at, result_at r i   the world that event i finds, the event, what it gives
--     started-at, seat-at, ordered_at, closed_at     what holds of that world
--     life_of r                           the course as a life
--     careful                             the rules of voting, as far as rounds go
--     round-rises, vote-in-round, high-rises, timeout-high      and of the round and the high QC
--     written_at                          what the course writes after START an event of it writes
use Prim.Native.Nat.{ℕ, zero, suc, ◌≤◌, ◌<◌}
use mathlib.Core.Bool.{true}
use mathlib.Core.List.{List, [], map, append-nil}
use mathlib.Core.Logic.{⊎_elim}
use mathlib.Core.Path.{◌≡◌, refl, ap, ◌∙◌}
use native.Mathlib.Nat.{le_refl}
use native.Mathlib.Omega.{arith}
use Rattle.certificates.specs.declared.numbers.Hash.{Hash}
use Rattle.certificates.specs.declared.numbers.Stake.{Stake}
use Rattle.certificates.specs.declared.messages.QC.{QC}
use Rattle.trace.specs.declared.events.Block.{Block}
use Rattle.trace.specs.Fields.{block_of}
use Rattle.outputs.specs.Records.{Rec, vote, timeout}
use Rattle.synchronizer.specs.declared.table.Slot.{Slot}
use Rattle.synchronizer.specs.Table.{cleared}
use Rattle.synchronizer.proofs.Lookups.{Closed, closed-cleared}
use Rattle.replica.specs.Blocks.{slot_for}
use Rattle.replica.specs.Step.{World, Result}
use Rattle.runs.specs.Runs.{Event, step_on, Written, is_signed, signed_in, delivered_in, round_of, voted_of, committed_of, high_of}
use Rattle.runs.proofs.Lists.{written-only, written_none, written_behind, written_either}
use Rattle.runs.proofs.Lawful.{Delivers}
use Rattle.runs.proofs.Steps.{Started, step_in, start-silent}
use Rattle.runs.proofs.Rounds.{Ordered, next-started, next-ordered, course-starts, origin-started, origin-ordered}
use Rattle.runs.proofs.Laws as laws
use Rattle.runs.proofs.Laws.{one-signed}
use Rattle.runs.specs.Courses.{Stage, leaves, outs_of, Course, origin, outputs}
use Rattle.runs.specs.Lives.{Life, Careful}
use Rattle.runs.proofs.Restart.{leaves-core, leaves-seat, leaves-closed}
use Rattle.runs.proofs.Time.{at, ev, gives, at_zero, at_next, outs-at, outs-find}

module _ (r : Course) where
  abbrev pub world_at : ℕ → World
  world_at i = at (origin r) r.stages i

  abbrev pub stage_at : ℕ → Stage
  stage_at i = ev r.stages i

  abbrev pub event_at : ℕ → Event
  event_at i = (stage_at i).event

  -- the total stake that START named
  abbrev pub total : Stake
  total = (course-starts r).total

  abbrev pub result_at : ℕ → Result
  result_at i = gives (origin r) r.stages i

  abbrev pub block_in : ℕ → Block
  block_in i = block_of (event_at i).bytes

  pub world-first : world_at 0 ≡ origin r
  world-first = at_zero (origin r) r.stages

  pub world-next : (i : ℕ) → world_at (suc i) ≡ leaves (stage_at i) (result_at i).world
  world-next i = at_next (origin r) r.stages i

  pub core-next : (i : ℕ) → (world_at (suc i)).state.core ≡ (result_at i).world.state.core
  core-next i = ap (λ (w : World). w.state.core) (world-next i) ∙ leaves-core (stage_at i) (result_at i).world

  pub started-at : (i : ℕ) → Started (world_at i) total
  started-at zero = rw world-first (origin-started r)
  started-at (suc i) = rw (world-next i) (next-started (world_at i) (stage_at i) total (started-at i))

  pub seat-at : (i : ℕ) → ((world_at i).seat ≡ (origin r).seat) × ((world_at i).stakes ≡ (origin r).stakes)
  seat-at zero = rw world-first (refl, refl)
  seat-at (suc i) =
      let s = laws.members-same (world_at i) (event_at i) total (started-at i) in
      let l = leaves-seat (stage_at i) (result_at i).world in
      rw (world-next i) (l.0 ∙ s.0 ∙ (seat-at i).0, l.1 ∙ s.1 ∙ (seat-at i).1)

  pub ordered_at : (i : ℕ) → Ordered (world_at i)
  ordered_at zero = rw world-first (origin-ordered r)
  ordered_at (suc i) = rw (world-next i) (next-ordered (world_at i) (stage_at i) total (started-at i) (ordered_at i))

  -- the table holds the parents of what it holds
  pub closed_at : (i : ℕ) → Closed (world_at i).table
  closed_at zero =
      let e : (origin r).table ≡ cleared r.lent.table = ap (λ (x : Result). x.world.table) (course-starts r).is in
      rw (world-first, e) (closed-cleared r.lent.table)
  closed_at (suc i) = rw (world-next i) (leaves-closed (stage_at i) (result_at i).world (laws.table-closed (world_at i) (event_at i) total (started-at i) (closed_at i)))

  -- what event i delivers
  abbrev pub deliveries_at : (i : ℕ) → Delivers (slot_for (block_in i)) (world_at i).table (result_at i).world.table (committed_of (world_at i)) (step_in (result_at i))
  deliveries_at i = laws.deliveries (world_at i) (event_at i) (total) (started-at i)

  -- ---- as a life

  abbrev pub before : ℕ → World
  before zero = origin r
  before (suc i) = world_at i

  abbrev pub Casts : ℕ → Hash → ℕ → Type 0
  Casts zero d n = ⊥
  Casts (suc i) d n = (to : ℕ) × Written (vote to d n) (result_at i).outs

  abbrev pub Expires : ℕ → ℕ → ℕ → Type 0
  Expires zero t h = ⊥
  Expires (suc i) t h = (q : QC) × (q.round.0 ≡ h) × Written (timeout t q) (result_at i).outs

  abbrev pub commits_at : ℕ → List Hash
  commits_at zero = []
  commits_at (suc i) = map (λ (s : Slot). s.digest) (deliveries_at i).blocks

  abbrev pub records_at : ℕ → List Rec
  records_at zero = []
  records_at (suc i) = delivered_in (result_at i).outs

  abbrev pub life_of : Life
  life_of =
      record {
        round = λ i. round_of (before i);
        voted = λ i. voted_of (before i);
        high = λ i. high_of (before i);
        committed = λ i. committed_of (before i);
        casts = Casts;
        expires = Expires;
        commits = commits_at;
        records = records_at;
      }

  voted-rises : (i : ℕ) → voted_of (before i) ≤ voted_of (before (suc i))
  voted-rises zero = rw world-first (le_refl _)
  voted-rises (suc i) = rw (core-next i) (laws.voted-rises (world_at i) (event_at i) (total) (started-at i))

  pub round-rises : (i : ℕ) → round_of (before i) ≤ round_of (before (suc i))
  round-rises zero = rw world-first (le_refl _)
  round-rises (suc i) = rw (core-next i) (laws.round-rises (world_at i) (event_at i) total (started-at i))

  pub high-rises : (i : ℕ) → high_of (before i) ≤ high_of (before (suc i))
  high-rises zero = rw world-first (le_refl _)
  high-rises (suc i) = rw (core-next i) (laws.high-rises (world_at i) (event_at i) (total) (started-at i))

  vote-new : (i : ℕ) (d : Hash) (n : ℕ) → Casts i d n → voted_of (before i) < n
  vote-new zero d n c = absurd c
  vote-new (suc i) d n c = laws.vote-new (world_at i) (event_at i) (total) (started-at i) c.1

  -- a vote is for a round that is not passed
  pub vote-in-round : (i : ℕ) (d : Hash) (n : ℕ) → Casts i d n → round_of (before i) ≤ n
  vote-in-round zero d n c = absurd c
  vote-in-round (suc i) d n c = laws.vote-in-round (world_at i) (event_at i) total (started-at i) c.1

  vote-kept : (i : ℕ) (d : Hash) (n : ℕ) → Casts i d n → n ≤ voted_of (before (suc i))
  vote-kept zero d n c = absurd c
  vote-kept (suc i) d n c = rw (core-next i) (omega (arith, laws.vote-last (world_at i) (event_at i) (total) (started-at i) c.1))

  timeout-kept : (i t h : ℕ) → Expires i t h → t ≤ voted_of (before (suc i))
  timeout-kept zero t h c = absurd c
  timeout-kept (suc i) t h c = rw (core-next i) (laws.timeout-kept (world_at i) (event_at i) (total) (started-at i) c.2)

  pub timeout-high : (i t h : ℕ) → Expires i t h → high_of (before i) ≤ h
  timeout-high zero t h c = absurd c
  timeout-high (suc i) t h c =
      let k = laws.timeout-high (world_at i) (event_at i) (total) (started-at i) c.2 in
      let e : c.0.round.0 ≡ high_of (world_at i) = ap (λ (q : QC). q.round.0) k.1 in
      omega (arith, c.1)

  vote-one : (i : ℕ) (d e : Hash) (n : ℕ) → Casts i d n → Casts i e n → d ≡ e
  vote-one zero d e n c f = absurd c
  vote-one (suc i) d e n c f =
      let same : vote c.0 d n ≡ vote f.0 e n = one-signed (world_at i) (event_at i) (total) (started-at i) refl refl c.1 f.1 in
      cc

  vote-only : (i : ℕ) (d : Hash) (n t h : ℕ) → Casts i d n → Expires i t h → ⊥
  vote-only zero d n t h c f = c
  vote-only (suc i) d n t h c f =
      let same : vote c.0 d n ≡ timeout t f.0 = one-signed (world_at i) (event_at i) (total) (started-at i) refl refl c.1 f.2 in
      let z : ◌≡◌ {A = ℕ} 0 1 = cc in
      omega arith

  pub careful : Careful life_of
  careful =
      record {
        voted-rises = voted-rises;
        vote-new = vote-new;
        vote-kept = vote-kept;
        timeout-kept = timeout-kept;
        vote-one = vote-one;
        vote-only = vote-only;
      }

  -- ---- what is written

  -- what is signed is signed by an event after START
  pub signed-at : {a : Rec} → is_signed a ≡ true → Written a (outputs r) → (i : ℕ) × Written a (result_at i).outs
  signed-at {a} f v =
      ⊎_elim
      (λ (u : Written a (step_on r.lent r.start).outs).
      let k : Written a (signed_in (step_on r.lent r.start).outs) = written-only is_signed f u in
      absurd (written_none (rw (start-silent r.lent r.start (course-starts r)).signs at k)))
      (λ (u : Written a (outs_of (origin r) r.stages)).
      let x = outs-find (origin r) r.stages [] u in
      (x.0, rw append-nil at x.2))
      (written_either (step_on r.lent r.start).outs (outs_of (origin r) r.stages) v)

  pub written_at : {a : Rec} (i : ℕ) → Written a (result_at i).outs → Written a (outputs r)
  written_at i v = written_behind (step_on r.lent r.start).outs (outs-at (origin r) r.stages i v)
