-- A member that obeys hands out true certificates where the results that it was given are true. Assumes nothing.
--     handed_out       every record that it writes
use Prim.Native.Nat.{ℕ}
use mathlib.Core.Bool.{Bool, true, false}
use mathlib.Core.List.{[], append-nil}
use mathlib.Core.Logic.{⊎_elim}
use mathlib.Core.Path.{◌≡◌, refl, sym, ap, ◌∙◌}
use native.Mathlib.Omega.{arith}
use Rattle.certificates.specs.declared.messages.QC.{QC}
use Rattle.certificates.specs.Messages.{is_genesis}
use Rattle.certificates.proofs.NumbersLaws.{genesis-is}
use Rattle.outputs.specs.Records.{Rec, vote, timeout, tc, make, make_with, commit, sync, clean_proposer, clean_mempool, timer_reset, answer}
use Rattle.moves.specs.declared.state.Core.{Core}
use Rattle.replica.specs.Step.{new_core}
use Rattle.runs.specs.Runs.{step_on, Written, is_signed}
use Rattle.runs.specs.Courses.{Course, origin, outs_of, outputs}
use Rattle.runs.specs.Signed.{Members, Sits}
use Rattle.runs.proofs.Lists.{written-only, written_none, written_either}
use Rattle.runs.proofs.Kept.{Backed, first, backed, Kept, Makes, Writes, Good, every-written}
use Rattle.runs.proofs.Handled.{Mine}
use Rattle.runs.proofs.Results.{SureEvent, sure-bad}
use Rattle.runs.proofs.Steps.{step_in, start-silent}
use Rattle.runs.proofs.Rounds.{course-starts}
use Rattle.runs.proofs.Laws as laws
use Rattle.runs.proofs.Time.{idle-bad, Split, split, outs-find}
use Rattle.runs.proofs.CourseLives.{world_at, stage_at, event_at, result_at, total, started-at, written_at}
use Rattle.cabinets.specs.HandedOut.{AllTruthful, TrueCertificate, TrueRecord}
use Rattle.cabinets.proofs.TrueCourses.{signing, moment, kept_at, good-at, good_start}

module _ (M : Members) (p : ℕ) (o : Sits M p) (true-results : AllTruthful M (M.course p)) where
  abbrev r : Course
  r = M.course p

  sure : (i : ℕ) → SureEvent (signing M) (event_at r i)
  sure i = ⊎_elim by-moment (λ z. sure-bad (signing M) (event_at r i) (idle-bad (stage_at r i) z)) (split (origin r) r.stages i)
    where
      by-moment : Split (origin r) r.stages i → SureEvent (signing M) (event_at r i)
      by-moment s =
          let k = true-results.results in
          let m = moment M p o i s in
          record {
            vote = λ f v. k.vote m f v;
            timeout = λ f v. true-results.timeout m f v;
            timeout-qc = λ f g v q n l. k.timeout-qc m f g v q l n;
            tc = λ f v q n l. true-results.tc m f v q l n;
            block-qc = λ f g v q n l. k.block-qc m f g v q l n;
            block-tc = λ f t z v q n l. k.block-tc m f t z v q l n;
          }

  mine : (i : ℕ) → Mine (signing M) p (result_at r i).outs
  mine i =
      record {
        votes = λ to n h v s. record { to = to; written = written_at r i v };
        expires = λ u q v s. record { high = q; is = refl; written = written_at r i v };
      }

  kept : (i : ℕ) → Kept M.stakes (signing M) (world_at r i).state
  kept i = kept_at M p o (signing M) sure mine i

  good : (i : ℕ) → Good M.stakes (signing M) (step_in (result_at r i))
  good i = good-at M p o (signing M) sure mine i

  backed-true : (q : QC) → Backed M.stakes (signing M) q → TrueCertificate M q
  backed-true q (first e) g =
      absurd (let x : ◌≡◌ {A = Bool} true false = sym genesis-is ∙ ap (λ (c : QC). is_genesis c.hash c.round.0) (sym e) ∙ g in let z : ◌≡◌ {A = ℕ} 0 1 = cc in omega arith)
  backed-true q (backed k s) g = s

  -- a record that an event writes which leaves the part by value c, and which finds the high QC q
  from-event : (c : Core) (a : Rec) → Backed M.stakes (signing M) c.high_qc → ((u : ℕ) (q : QC) → a ≡ timeout u q → Backed M.stakes (signing M) q)
      → Makes M.stakes (signing M) c a → TrueRecord M a
  from-event c (vote to hash round) h t k = tt
  from-event c (timeout round high) h t k = backed-true high (t round high refl)
  from-event c (tc round names highs) h t k = k.signed
  from-event c (make round high) h t k = rw k (backed-true c.high_qc h)
  from-event c (make_with round high of names highs) h t k = (rw k.0 (backed-true c.high_qc h), k.1.signed)
  from-event c (commit digest round) h t k = tt
  from-event c (sync parent block author) h t k = tt
  from-event c (clean_proposer b0 b1 block) h t k = tt
  from-event c (clean_mempool round) h t k = tt
  from-event c timer_reset h t k = tt
  from-event c (answer n) h t k = tt

  by-start : (a : Rec) → Written a (step_on r.lent r.start).outs → TrueRecord M a
  by-start a v =
      from-event new_core a (first refl)
      (λ u q e. absurd (written_none (rw (start-silent r.lent r.start (course-starts r)).signs at (written-only is_signed (rw e refl) v))))
      (every-written (Writes M.stakes (signing M) new_core) (good_start M p o (signing M)) v).makes

  by-event : (i : ℕ) (a : Rec) → Written a (result_at r i).outs → TrueRecord M a
  by-event i a v =
      from-event (result_at r i).world.state.core a (good i).state.high
      (λ u q e. rw (laws.timeout-high (world_at r i) (event_at r i) (total r) (started-at r i) (rw e at v)).1 (kept i).high)
      (every-written (Writes M.stakes (signing M) (result_at r i).world.state.core) (good i).outs v).makes

  -- Every certificate that a member that obeys hands out, in TIMEOUT, TC and MAKE, is true.
  pub handed_out : (a : Rec) → Written a (outputs r) → TrueRecord M a
  handed_out a v =
      ⊎_elim
      (by-start a)
      (λ (u : Written a (outs_of (origin r) r.stages)). let x = outs-find (origin r) r.stages [] u in by-event x.0 a (rw append-nil at x.2))
      (written_either (step_on r.lent r.start).outs (outs_of (origin r) r.stages) v)
