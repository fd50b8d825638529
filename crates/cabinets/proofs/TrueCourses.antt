-- Over the course of a member that obeys: the names in tallies, in the high QC and in the certificates of MAKE are those of members that signed. Premises: `Cabinets`, of
-- which only the results count here. Assumes nothing.
--     voting M                     what is signed by a vote, of those that obey
--     signing M                    .. and by a timeout
--     certified, ended             what is backed is certified; what is closed is ended
--     committee-at, own_at         the committee is M's, and the place is the member's
--     moment                       event i as a moment
--     kept_at, good-at, good_start     the invariant, and what each event and START write, for whatever is known of who signed
--     sure-at, mine-at             the results of an event are true, and what it signs counts as signed
use Prim.Native.Nat.{ℕ, zero, suc, ◌≤◌}
use mathlib.Core.List.{List}
use mathlib.Core.Logic.{⊎_elim}
use mathlib.Core.Path.{◌≡◌, refl, sym, ap, ◌∙◌, subst}
use lib.ListN.{get_or}
use Rattle.certificates.specs.declared.numbers.Hash.{Hash}
use Rattle.certificates.specs.declared.numbers.Signers.{Signers}
use Rattle.certificates.specs.Signers.{is_in, words}
use Rattle.replica.specs.Started.{members_of}
use Rattle.replica.specs.Step.{Result, committee, new_core, new_state, new_seat, new_stakes}
use Rattle.runs.specs.Runs.{step_on}
use Rattle.runs.specs.Courses.{Course, origin, Moment}
use Rattle.runs.specs.Lives.{Certified, Ended}
use Rattle.runs.specs.Signed.{Members, Sits, Signed, Expired}
use Rattle.runs.proofs.Kept.{Signatures, Every, Backs, Closes, Kept, Writes, Good, kept_new, writes-announced}
use Rattle.runs.proofs.Handled.{Mine}
use Rattle.runs.proofs.Results.{SureEvent, sure-bad, good-step}
use Rattle.runs.proofs.Steps.{step_in}
use Rattle.runs.proofs.Restart.{leaves_kept}
use Rattle.runs.proofs.Rounds.{course-starts}
use Rattle.runs.proofs.Time.{idle-bad, Split, split}
use Rattle.runs.proofs.CourseLives.{world_at, stage_at, event_at, total, result_at, world-first, world-next, started-at, seat-at, written_at}
use Rattle.runs.proofs.Parties.{party_of, sits, cast, expired, quorum-of}
use Rattle.cabinets.specs.Ledgers.{Cabinets}

module _ (M : Members) where
  abbrev pub voting : Signatures
  voting = record { votes = λ p h n. Sits M p → Signed M p h n; expires = λ p t h. Unit {0} }

  abbrev pub signing : Signatures
  signing = record { votes = λ p h n. Sits M p → Signed M p h n; expires = λ p t h. Sits M p → Expired M p t h }

  -- what is backed is certified
  pub certified : (h : Hash) (n : ℕ) → Backs M.stakes voting h n → Certified (party_of M) h n
  certified h n b =
      record {
        signers = words b.names;
        quorum = quorum-of M b.names b.quorum;
        signed = λ p i o. cast M (b.signed p i (sits M p o));
      }

  -- what is closed is ended
  pub ended : (t q : ℕ) (names : Signers) (highs : List ℕ) → Closes M.stakes signing t names highs → ((p : ℕ) → is_in (words names) p ≡ 1 → get_or highs p 0 ≤ q)
      → Ended (party_of M) t q
  ended t q names highs c most =
      record {
        signers = words names;
        quorum = quorum-of M names c.quorum;
        signed = λ p i o. (get_or highs p 0, most p i, expired M (c.signed p i (sits M p o)));
      }

  module _ (p : ℕ) (o : Sits M p) where
    abbrev r : Course
    r = M.course p

    pub committee-at : (i : ℕ) → committee (world_at r i) ≡ M.stakes
    committee-at i =
        let s = seat-at r i in
        let e : committee (world_at r i) ≡ committee (origin r) = rw (s.0, s.1) refl in
        e ∙ M.same p o.member o.obeys

    own_at : (i : ℕ) → (world_at r i).seat.own.0 ≡ p
    own_at i = rw (seat-at r i).0 (M.seated p o.member o.obeys)

    -- event i as a moment, if it is one
    abbrev pub moment : (i : ℕ) → Split (origin r) r.stages i → Moment r
    moment i s = record { past = s.past; stage = stage_at r i; rest = s.rest; is = s.is }

    -- ---- whatever is known of who signed

    module _ (g : Signatures) (sure : (i : ℕ) → SureEvent g (event_at r i)) (mine : (i : ℕ) → Mine g p (result_at r i).outs) where
      good-from : (i : ℕ) → Kept M.stakes g (world_at r i).state → Good M.stakes g (step_in (result_at r i))
      good-from i k =
          rw (committee-at i) at
          (good-step (world_at r i) (event_at r i) (total r) (started-at r i) g (rw (committee-at i) k) (sure i)
          (subst (λ (q : ℕ). Mine g q (result_at r i).outs) (sym (own_at i)) (mine i)))

      kept-first : Kept M.stakes g (world_at r 0).state
      kept-first =
          let e : (origin r).state ≡ new_state = ap (λ (x : Result). x.world.state) (course-starts r).is in
          rw (world-first r, e) (kept_new M.stakes g)

      kept_next : (i : ℕ) → Kept M.stakes g (world_at r i).state → Kept M.stakes g (world_at r (suc i)).state
      kept_next i k = rw (world-next r i) (leaves_kept (stage_at r i) (result_at r i).world M.stakes g (good-from i k).state)

      -- The names in tallies and in the high QC are those of members that signed, all along.
      pub kept_at : (i : ℕ) → Kept M.stakes g (world_at r i).state
      kept_at zero = kept-first
      kept_at (suc i) = kept_next i (kept_at i)

      pub good-at : (i : ℕ) → Good M.stakes g (step_in (result_at r i))
      good-at i = good-from i (kept_at i)

    -- START
    pub good_start : (g : Signatures) → Every (Writes M.stakes g new_core) (step_on r.lent r.start).outs
    good_start g =
        let e = (course-starts r).is in
        let c : committee (origin r) ≡ members_of (new_seat r.start.bytes) (new_stakes r.start.bytes) = ap (λ (x : Result). committee x.world) e in
        let d : members_of (new_seat r.start.bytes) (new_stakes r.start.bytes) ≡ M.stakes = sym c ∙ M.same p o.member o.obeys in
        rw (ap (λ (x : Result). x.outs) e, d) (writes-announced M.stakes g (new_seat r.start.bytes).own.0)

    -- ---- votes

    pub sure-at : Cabinets M → (i : ℕ) → SureEvent voting (event_at r i)
    sure-at C i = ⊎_elim by-moment (λ z. sure-bad voting (event_at r i) (idle-bad (stage_at r i) z)) (split (origin r) r.stages i)
      where
        by-moment : Split (origin r) r.stages i → SureEvent voting (event_at r i)
        by-moment s =
            let k = C.results p o in
            let m = moment i s in
            record {
              vote = λ f v. k.vote m f v;
              timeout = λ f v. tt;
              timeout-qc = λ f g v q n l. k.timeout-qc m f g v q l n;
              tc = λ f v q n. tt;
              block-qc = λ f g v q n l. k.block-qc m f g v q l n;
              block-tc = λ f t z v q n. tt;
            }

    pub mine-at : (i : ℕ) → Mine voting p (result_at r i).outs
    mine-at i = record { votes = λ to n h v s. record { to = to; written = written_at r i v }; expires = λ u q v. tt }
