-- The course of a member that obeys keeps all that is asked of a life. Premises: `Cabinets`. Assumes nothing.
--     Loops, Proposed, Made, Processed, Found, trace_of r     what happens to blocks in a course
--     source             LOOPBACK carries what was offered before
--     stored             the table holds what was offered
--     votes, commits     votes and commits
--     keeps              all of it
use Prim.Native.Nat.{ℕ, zero, suc, ◌≤◌, ◌<◌}
use mathlib.Core.Bool.{false}
use mathlib.Core.List.{List, [], ◌∷◌, ◌++◌, map, append_assoc}
use mathlib.Core.Logic.{◌⊎◌, inl, inr, ⊎_elim}
use mathlib.Core.Path.{◌≡◌, refl, sym, ap, ◌∙◌}
use native.Mathlib.Omega.{arith}
use lib.ListN.{length, length-append}
use Rattle.std.specs.Prelude.{Option, None, Some}
use Rattle.certificates.specs.declared.numbers.Hash.{Hash}
use Rattle.certificates.specs.declared.messages.QC.{QC}
use Rattle.certificates.specs.Num.{num_at, hash_at}
use Rattle.certificates.specs.Messages.{is_genesis}
use Rattle.trace.specs.declared.events.Kind.{Kind}
use Rattle.trace.specs.declared.events.BlockTc.{BlockTc}
use Rattle.trace.specs.Fields.{block_of}
use Rattle.trace.specs.Layout.{block_qc, qc_part, tc_part, highs_of, largest_high}
use Rattle.trace.proofs.PartLaws.{qc-part-hash, qc-part-round, tc-part-round, highs-le}
use Rattle.trace.proofs.FieldLaws.{block-qc-hash, block-qc-round, block-tc-round, block-tc-high}
use Rattle.outputs.specs.Records.{Rec, vote, timeout, tc, make, make_with, commit, sync, clean_proposer, clean_mempool, timer_reset, answer}
use Rattle.synchronizer.specs.declared.table.Slot.{Slot}
use Rattle.synchronizer.specs.Table.{cleared, b0_of, b1_of}
use Rattle.synchronizer.specs.Settle.{commit_rec}
use Rattle.synchronizer.proofs.Lookups.{Has, cleared-has, line, walked_as, walk-slots}
use Rattle.moves.specs.declared.state.Core.{Core}
use Rattle.handlers.proofs.VoteTheorems.{ExtendsTC}
use Rattle.replica.specs.Blocks.{slot_for}
use Rattle.replica.specs.Step.{Result, new_core}
use Rattle.runs.specs.Runs.{step_on, Written, round_of, committed_of, high_of}
use Rattle.runs.specs.Courses.{Stage, Course, outs_of, world_after, origin}
use Rattle.runs.specs.Passed.{Passed, Looped}
use Rattle.runs.specs.Lives.{Ended}
use Rattle.runs.specs.Signed.{Members, Sits}
use Rattle.runs.proofs.Lists.{written_either}
use Rattle.runs.proofs.Kept.{Every, every-written, Backs, Closes, Makes, Writes, Good, kept_new, high-backs}
use Rattle.runs.proofs.Handled.{SureTC, embedded-backs, tc-closes}
use Rattle.runs.proofs.Lawful.{Deliveries, none, some}
use Rattle.runs.proofs.Steps.{took_by, step_in}
use Rattle.runs.proofs.Brings.{Brings, proposes, loops, idles, brings, passed-high, passed-qc, passed-tc}
use Rattle.runs.proofs.Laws as laws
use Rattle.runs.proofs.Restart.{leaves-has}
use Rattle.runs.proofs.Rounds.{course-starts}
use Rattle.runs.proofs.Time.{at-past, ev-past, idle-bad, Split, split, outs-find}
use Rattle.runs.proofs.CourseLives.{world_at, stage_at, event_at, total, result_at, block_in, world-first, world-next, core-next, started-at, ordered_at, deliveries_at, before, Casts, life_of, careful, round-rises, vote-in-round, high-rises, timeout-high}
use Rattle.runs.proofs.Parties.{party_of}
use Rattle.cabinets.specs.Contents.{Ending, without, ends, Content, ending, ending_of, content_of, MadeFrom}
use Rattle.cabinets.specs.Ledgers.{Held, Ordered, Cabinets}
use Rattle.cabinets.proofs.Events.{slot_of, Trace, Offered, Voting, Committing, TrueQc, TrueTc, Keeps}
use Rattle.cabinets.proofs.TrueCourses.{voting, signing, certified, ended, committee-at, moment, good-at, good_start, sure-at, mine-at}

module _ (r : Course) where
  -- by event i, or by START
  abbrev pub outs_by : ℕ → List Rec
  outs_by zero = (step_on r.lent r.start).outs
  outs_by (suc i) = (result_at r i).outs

  abbrev pub Loops : ℕ → Type 0
  Loops i = Looped (world_at r i) (event_at r i)

  abbrev pub Proposed : ℕ → Content → Type 0
  Proposed zero c = ⊥
  Proposed (suc i) c = Passed (world_at r i) (event_at r i) × (content_of (block_in r i) ≡ c)

  -- of blocks that could be made, those that a LOOPBACK brings
  abbrev pub Carried : Content → Type 0
  Carried c = (k : ℕ) × (Loops k) × (content_of (block_in r k) ≡ c)

  abbrev pub Made : ℕ → Content → Type 0
  Made i c = (a : Rec) × Written a (outs_by i) × MadeFrom a c × Carried c

  abbrev pub Processed : ℕ → Content → Type 0
  Processed zero c = ⊥
  Processed (suc i) c = (Passed (world_at r i) (event_at r i) ⊎ Loops i) × (content_of (block_in r i) ≡ c)

  abbrev pub Found : ℕ → Slot → Type 0
  Found zero s = ⊥
  Found (suc i) s = Has (world_at r i).table s ⊎ Has (result_at r i).world.table s

  abbrev pub trace_of : Trace
  trace_of = record { proposed = Proposed; made = Made; processed = Processed; found = Found }

module _ (M : Members) (C : Cabinets M) (p : ℕ) (o : Sits M p) where
  abbrev r : Course
  r = M.course p

  -- ---- where the block of a LOOPBACK comes from

  from-held : (i : ℕ) (s : Split (origin r) r.stages i) → Held (moment M p o i s) → (j : ℕ) × (j < suc i) × Offered (trace_of r) j (content_of (block_in r i))
  from-held i s h =
      let e = h.earlier in
      let rest = e.rest ++ (stage_at r i ∷ s.rest) in
      let whole : r.stages ≡ e.past ++ (e.stage ∷ rest) =
      s.is ∙ ap (λ (l : List Stage). l ++ (stage_at r i ∷ s.rest)) e.is ∙ append_assoc e.past (e.stage ∷ e.rest) (stage_at r i ∷ s.rest) in
      let j = length e.past in
      let w : world_at r j ≡ world_after (origin r) e.past = rw whole (at-past (origin r) e.past (e.stage ∷ rest)) in
      let v : stage_at r j ≡ e.stage = rw whole (ev-past e.past e.stage rest) in
      let u : event_at r j ≡ e.stage.event = ap (λ (x : Stage). x.event) v in
      let k : Passed (world_at r j) (event_at r j) = rw (w, u) h.passed in
      let c : content_of (block_in r j) ≡ content_of (block_in r i) = ap (λ (x : Stage). content_of (block_of x.event.bytes)) v ∙ h.same in
      let l : length e.past < length s.past = rw (e.is, length-append e.past (e.stage ∷ e.rest)) (omega arith) in
      (suc j, omega (arith, s.long), inl (k, c))

  from-order : (i : ℕ) (s : Split (origin r) r.stages i) → Loops r i → Ordered (moment M p o i s) → (j : ℕ) × (j < suc i) × Offered (trace_of r) j (content_of (block_in r i))
  from-order i s f h =
      ⊎_elim
      (λ (u : Written h.order (step_on r.lent r.start).outs). (0, omega arith, inr (h.order, u, h.made, (i, f, refl))))
      (λ (u : Written h.order (outs_of (origin r) s.past)).
      let x = outs-find (origin r) s.past (stage_at r i ∷ s.rest) u in
      let y : Written h.order (result_at r x.0).outs = rw (← s.is) at x.2 in
      (suc x.0, omega (arith, s.long, x.1), inr (h.order, y, h.made, (i, f, refl))))
      (written_either (step_on r.lent r.start).outs (outs_of (origin r) s.past) h.told)

  loop-source : (i : ℕ) → Loops r i → (j : ℕ) × (j < suc i) × Offered (trace_of r) j (content_of (block_in r i))
  loop-source i f =
      ⊎_elim
      (λ s. ⊎_elim (from-held i s) (from-order i s f) (C.loopbacks p o (moment M p o i s) (rw s.world f)))
      (λ z. absurd (let x : Some Kind.Loopback ≡ None = sym f.kind ∙ idle-bad (stage_at r i) z in let y : ◌≡◌ {A = ℕ} 0 1 = cc in omega arith))
      (split (origin r) r.stages i)

  source : (i : ℕ) (c : Content) → Processed r i c → Proposed r i c ⊎ ((j : ℕ) × (j < i) × Offered (trace_of r) j c)
  source zero c g = absurd g
  source (suc i) c g =
      ⊎_elim
      (λ k. inl (k, g.1))
      (λ f. inr (rw g.1 at (loop-source i f)))
      g.0

  -- ---- what is offered has true certificates, and a QC not above the high QC

  abbrev core_by : ℕ → Core
  core_by zero = new_core
  core_by (suc i) = (result_at r i).world.state.core

  high-by : (i : ℕ) → (core_by i).high_qc.round.0 ≡ high_of (before r (suc i))
  high-by zero =
      let h : high_of (origin r) ≡ 0 = ap (λ (x : Result). high_of x.world) (course-starts r).is in
      rw (world-first r) (sym h)
  high-by (suc i) = rw (core-next r i) refl

  round_by : (i : ℕ) → (core_by i).round.0 ≡ round_of (before r (suc i))
  round_by zero =
      let h : round_of (origin r) ≡ 1 = ap (λ (x : Result). round_of x.world) (course-starts r).is in
      rw (world-first r) (sym h)
  round_by (suc i) = rw (core-next r i) refl

  good : (i : ℕ) → Good M.stakes (voting M) (step_in (result_at r i))
  good i = good-at M p o (voting M) (sure-at M p o C) (mine-at M p o) i

  makes-by : (i : ℕ) → Every (Writes M.stakes (voting M) (core_by i)) (outs_by r i)
  makes-by zero = good_start M p o (voting M)
  makes-by (suc i) = (good i).outs

  high-true : (i : ℕ) → let q = (core_by i).high_qc in is_genesis q.hash q.round.0 ≡ false → Backs M.stakes (voting M) q.hash q.round.0
  high-true zero = high-backs M.stakes (voting M) (kept_new M.stakes (voting M))
  high-true (suc i) = high-backs M.stakes (voting M) (good i).state

  -- a block made from a record, where c is the part by value that the event of the record left
  record Sourced (c : Core) (b : Content) : Type 0 where
    hash : b.qc_hash ≡ c.high_qc.hash
    round : b.qc_round ≡ c.high_qc.round.0
    ending : (t h : ℕ) → b.tc ≡ ends t h → t < c.round.0

  no-ending : {A : Type 0} (e : Ending) (t h : ℕ) → e ≡ without → e ≡ ends t h → A
  no-ending e t h f g = absurd (let x : without ≡ ends t h = sym f ∙ g in let z : ◌≡◌ {A = ℕ} 0 1 = cc in omega arith)

  one-ending : (e : Ending) (t h u k : ℕ) → e ≡ ends t h → e ≡ ends u k → u ≡ t
  one-ending e t h u k f g = let x : ends t h ≡ ends u k = sym f ∙ g in cc

  sourced : (c : Core) (a : Rec) (b : Content) → MadeFrom a b → Makes M.stakes (voting M) c a → Sourced c b
  sourced c (vote to hash round) b f k = absurd f
  sourced c (timeout round high) b f k = absurd f
  sourced c (tc round names highs) b f k = absurd f
  sourced c (make round high) b f k =
      record {
        hash = f.0.qc-hash ∙ ap (λ (q : QC). q.hash) k;
        round = f.0.qc-round ∙ ap (λ (q : QC). q.round.0) k;
        ending = λ t h e. no-ending b.tc t h f.1 e;
      }
  sourced c (make_with round high of names highs) b f k =
      record {
        hash = f.0.qc-hash ∙ ap (λ (q : QC). q.hash) k.0;
        round = f.0.qc-round ∙ ap (λ (q : QC). q.round.0) k.0;
        ending = λ t h e. omega (arith, one-ending b.tc of f.1.0 t h f.1.1 e, k.2);
      }
  sourced c (commit digest round) b f k = absurd f
  sourced c (sync parent block author) b f k = absurd f
  sourced c (clean_proposer b0 b1 block) b f k = absurd f
  sourced c (clean_mempool round) b f k = absurd f
  sourced c timer_reset b f k = absurd f
  sourced c (answer n) b f k = absurd f

  sourced-by : (i : ℕ) (b : Content) → Made r i b → Sourced (core_by i) b
  sourced-by i b g = sourced (core_by i) g.0 b g.2 (every-written (Writes M.stakes (voting M) (core_by i)) (makes-by i) g.1).makes

  made-qc : (i : ℕ) (b : Content) → Sourced (core_by i) b → TrueQc (party_of M) b.qc_hash b.qc_round
  made-qc i b s = rw (s.hash, s.round) (λ g. certified M (core_by i).high_qc.hash (core_by i).high_qc.round.0 (high-true i g))

  proposed-qc : (i : ℕ) → Passed (world_at r i) (event_at r i) → TrueQc (party_of M) (block_in r i).qc_hash (block_in r i).qc_round.0
  proposed-qc i k g =
      let b = block_in r i in
      let bytes = (event_at r i).bytes in
      let part = qc_part bytes block_qc in
      let h : hash_at part 0 ≡ b.qc_hash = qc-part-hash bytes block_qc ∙ sym (block-qc-hash bytes) in
      let n : num_at 8 part 32 ≡ b.qc_round.0 = qc-part-round bytes block_qc ∙ sym (block-qc-round bytes) in
      let a = rw (committee-at M p o i) at (passed-qc (world_at r i) (event_at r i) (total r) (started-at r i) k) in
      let x : Backs M.stakes (voting M) (hash_at part 0) (num_at 8 part 32) =
      embedded-backs M.stakes (voting M) part a.0 ((sure-at M p o C i).block-qc k.kind) a.1 (rw (h, n) g) in
      certified M b.qc_hash b.qc_round.0 (rw (h, n) at x)

  -- the result of its TC is true
  sure-tc : (i : ℕ) → Passed (world_at r i) (event_at r i) → {t : BlockTc} → (block_in r i).tc ≡ Some t → SureTC (signing M) (tc_part (event_at r i).bytes t.at)
  sure-tc i k {t} ne v q n =
      ⊎_elim
      (λ (s : Split (origin r) r.stages i). λ l. (C.results p o).block-tc (moment M p o i s) k.kind t ne v q l n)
      (λ z. absurd (let x : Some Kind.Propose ≡ None = sym k.kind ∙ idle-bad (stage_at r i) z in let y : ◌≡◌ {A = ℕ} 0 1 = cc in omega arith))
      (split (origin r) r.stages i)

  tc-true : (i : ℕ) → Passed (world_at r i) (event_at r i) → TrueTc (party_of M) (ending_of (block_in r i))
  tc-true i k = cases (block_in r i).tc refl
    where
      some : {t : BlockTc} → (block_in r i).tc ≡ Some t → Ended (party_of M) t.round.0 t.high.0
      some {t} ne =
          let bytes = (event_at r i).bytes in
          let part = tc_part bytes t.at in
          let n : num_at 8 part 0 ≡ t.round.0 = tc-part-round bytes t.at ∙ sym (block-tc-round bytes ne) in
          let most : t.high.0 ≡ largest_high part = block-tc-high bytes ne in
          let a = rw (committee-at M p o i) at (passed-tc (world_at r i) (event_at r i) (total r) (started-at r i) k ne) in
          let x : Closes M.stakes (signing M) (num_at 8 part 0) a.0 (highs_of part) = tc-closes M.stakes (signing M) part a.0 (sure-tc i k ne) a.1 in
          ended M t.round.0 t.high.0 a.0 (highs_of part) (rw n at x) (λ j c. omega (arith, highs-le part j, most))

      cases : (o : Option BlockTc) → (block_in r i).tc ≡ o → TrueTc (party_of M) (ending o)
      cases None e = tt
      cases (Some t) e = some e

  offered-high : (i : ℕ) (c : Content) → Offered (trace_of r) i c → c.qc_round ≤ high_of (before r (suc i))
  offered-high zero c (inl g) = absurd g
  offered-high (suc i) c (inl g) =
      let e : (block_in r i).qc_round.0 ≡ c.qc_round = ap (λ (x : Content). x.qc_round) g.1 in
      rw (core-next r i) (omega (arith, passed-high (world_at r i) (event_at r i) (total r) (started-at r i) g.0))
  offered-high i c (inr g) = omega (arith, (sourced-by i c g).round, high-by i)

  offered-qc : (i : ℕ) (c : Content) → Offered (trace_of r) i c → TrueQc (party_of M) c.qc_hash c.qc_round
  offered-qc zero c (inl g) = absurd g
  offered-qc (suc i) c (inl g) = rw (← g.1) (proposed-qc i g.0)
  offered-qc i c (inr g) = made-qc i c (sourced-by i c g)

  proposed-tc : (i : ℕ) (c : Content) → Proposed r i c → TrueTc (party_of M) c.tc
  proposed-tc zero c g = absurd g
  proposed-tc (suc i) c g = rw (← g.1) (tc-true i g.0)

  made-high : (i : ℕ) (c : Content) → Made r i c → high_of (before r (suc i)) ≤ c.qc_round
  made-high i c g = omega (arith, (sourced-by i c g).round, high-by i)

  made-round : (i : ℕ) (c : Content) → Made r i c → (t h : ℕ) → c.tc ≡ ends t h → t < round_of (before r (suc i))
  made-round i c g t h e = omega (arith, (sourced-by i c g).ending t h e, round_by i)

  -- ---- votes

  votes : (i : ℕ) (d : Hash) (n : ℕ) → Casts r i d n → Voting (trace_of r) (life_of r) i d n
  votes zero d n c = absurd c
  votes (suc i) d n c = cases (brings (world_at r i) (event_at r i) (total r) (started-at r i))
    where
      by : Passed (world_at r i) (event_at r i) ⊎ Loops r i → Voting (trace_of r) (life_of r) (suc i) d n
      by g =
          let w = world_at r i in
          let e = event_at r i in
          let t = total r in
          let s = started-at r i in
          let b = block_in r i in
          let x = laws.vote-block w e t s c.1 in
          let y = laws.vote-current w e t s c.1 (ordered_at r i).high in
          record {
            content = content_of b;
            goes = (g, refl);
            digest = sym x.0;
            round = sym x.1;
            high = y.0;
            before = y.1;
            after = rw (core-next r i) y.3;
            current = y.2;
            took = λ k. let u : took_by (Some Kind.Propose) b ≤ y.0 = rw k.0.kind at y.4 in u;
            rule = ⊎_elim
                (λ u. inl (omega (arith, x.1)))
                (λ (u : ExtendsTC b). inr (u.tc.round.0, u.tc.high.0, rw u.some refl, omega (arith, x.1, u.next), u.high))
                (laws.vote-rule w e t s c.1);
          }

      cases : Brings (world_at r i) (event_at r i) → Voting (trace_of r) (life_of r) (suc i) d n
      cases (proposes k) = by (inl k)
      cases (loops f) = by (inr f)
      cases (idles k) = absurd (k.votes c.1)

  -- ---- the table

  abbrev Source : Slot → Type 0
  Source s = (j : ℕ) × (c : Content) × (slot_of c ≡ s) × Offered (trace_of r) j c

  next-slots : (i : ℕ) → ((s : Slot) → Has (world_at r i).table s → Source s) → (s : Slot) → Has (result_at r i).world.table s → Source s
  next-slots i known s h = cases (brings (world_at r i) (event_at r i) (total r) (started-at r i))
    where
      new : (s ≡ slot_for (block_in r i)) ⊎ Has (world_at r i).table s
      new = laws.table-has (world_at r i) (event_at r i) (total r) (started-at r i) s h

      cases : Brings (world_at r i) (event_at r i) → Source s
      cases (proposes k) = ⊎_elim (λ e. (suc i, content_of (block_in r i), sym e, inl (k, refl))) (known s) new
      cases (loops f) = ⊎_elim (λ e. let x = loop-source i f in (x.0, content_of (block_in r i), sym e, x.2)) (known s) new
      cases (idles k) = known s (rw k.table at h)

  first-slots : (s : Slot) → Has (world_at r 0).table s → Source s
  first-slots s h =
      let e : (origin r).table ≡ cleared r.lent.table = ap (λ (x : Result). x.world.table) (course-starts r).is in
      absurd (cleared-has r.lent.table s (rw (world-first r, e) at h))

  slots : (i : ℕ) (s : Slot) → Has (world_at r i).table s → Source s
  slots zero s h = first-slots s h
  slots (suc i) s h = next-slots i (slots i) s (leaves-has (stage_at r i) (result_at r i).world s (rw (world-next r i) at h))

  stored : (i : ℕ) (s : Slot) → Found r i s → (j : ℕ) × (c : Content) × (slot_of c ≡ s) × Offered (trace_of r) j c
  stored zero s f = absurd f
  stored (suc i) s (inl h) = slots i s h
  stored (suc i) s (inr h) = next-slots i (slots i) s h

  -- ---- commits

  commits : (i : ℕ) → (((life_of r).commits i ≡ []) × ((life_of r).committed (suc i) ≡ (life_of r).committed i) × ((life_of r).records i ≡ [])) ⊎ Committing (trace_of r) (life_of r) i
  commits zero = inl (refl, rw (world-first r) refl, refl)
  commits (suc i) = cases (brings (world_at r i) (event_at r i) (total r) (started-at r i))
    where
      empty : (bs : List Slot) → [] ≡ map commit_rec bs → bs ≡ []
      empty [] e = refl
      empty (b ∷ bs) e = absurd (let z : ◌≡◌ {A = ℕ} 0 1 = cc in omega arith)

      Done : Type 0
      Done = (((life_of r).commits (suc i) ≡ []) × ((life_of r).committed (suc (suc i)) ≡ (life_of r).committed (suc i)) × ((life_of r).records (suc i) ≡ [])) ⊎ Committing (trace_of r) (life_of r) (suc i)

      by : Passed (world_at r i) (event_at r i) ⊎ Loops r i
          → Deliveries (slot_for (block_in r i)) (world_at r i).table (result_at r i).world.table (committed_of (world_at r i)) (deliveries_at r i).blocks (committed_of (result_at r i).world) → Done
      by g (none e f) = inl (rw e refl, rw (core-next r i) f, (deliveries_at r i).are ∙ ap (map commit_rec) e)
      by g (some k) =
          let t = (world_at r i).table in
          let b = slot_for (block_in r i) in
          let c = line t b k.found (omega (arith, k.newer)) (omega (arith, k.next)) in
          inr (record {
            content = content_of (block_in r i);
            goes = (g, refl);
            b1 = b1_of t b;
            other1 = c.other1;
            on1 = c.on1;
            found1 = inl c.has1;
            b0 = b0_of t b;
            other0 = c.other0;
            on0 = c.on0;
            found0 = inl c.has0;
            consecutive = omega (arith, k.next);
            newer = k.newer;
            slots = (deliveries_at r i).blocks;
            walk = walked_as (λ s h. inr h) (walk-slots (result_at r i).world.table (committed_of (world_at r i)) (b0_of t b) (deliveries_at r i).blocks k.walk);
            written = refl;
            recorded = (deliveries_at r i).are;
            kept = rw (core-next r i) k.last;
          })

      cases : Brings (world_at r i) (event_at r i) → Done
      cases (proposes k) = by (inl k) (deliveries_at r i).by
      cases (loops f) = by (inr f) (deliveries_at r i).by
      cases (idles k) =
          let e : (deliveries_at r i).blocks ≡ [] = empty (deliveries_at r i).blocks (sym k.commits ∙ (deliveries_at r i).are) in
          inl (rw e refl, rw (core-next r i) (laws.commit-none (world_at r i) (event_at r i) (total r) (started-at r i) k.commits), k.commits)

  -- The course of a member that obeys keeps all that is asked of a life.
  pub keeps : Keeps (party_of M) (life_of r) (trace_of r)
  keeps =
      record {
        careful = careful r;
        round-rises = round-rises r;
        vote-in-round = vote-in-round r;
        high-rises = high-rises r;
        timeout-high = timeout-high r;
        voting = votes;
        offered-high = offered-high;
        offered-qc = offered-qc;
        proposed-tc = proposed-tc;
        made-high = made-high;
        made-round = made-round;
        start = ap (λ (x : Result). committed_of x.world) (course-starts r).is;
        commit = commits;
        stored = stored;
        source = source;
      }
