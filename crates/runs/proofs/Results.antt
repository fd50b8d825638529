-- One event is `Good`, from a world that counts as started and a state that is `Kept`, where the results that come with it are true and what it signs counts as signed.
-- w is the world before the event e, g what is known of who signed. Assumes nothing.
--     SureEvent g e, sure-bad      the results that come with the event are true; a record without a form brings none
--     good-step                    every event
--     good-any                     every event, whatever the results are
--     make-high, make-with-high    L4: MAKE's QC is the high QC after the event, and its TC has a quorum; no premise on results
use Prim.Native.Nat.{ℕ, zero, suc, ◌≤◌}
use mathlib.Core.Bool.{Bool, true, false, cond}
use mathlib.Core.List.{List, ◌∷◌}
use mathlib.Core.Path.{◌≡◌, refl, sym, ◌∙◌}
use native.Mathlib.Omega.{arith}
use borrow.Author.Tests.{ltb-false}
use lib.Dec.{ltb}
use lib.ListN.{length}
use Rattle.std.specs.Prelude.{None, Some}
use Rattle.certificates.specs.declared.numbers.Stake.{Stake}
use Rattle.certificates.specs.declared.messages.QC.{QC}
use Rattle.certificates.specs.Config.{members_max}
use Rattle.trace.specs.declared.events.Kind.{Kind}
use Rattle.trace.specs.Form.{form_of, any_above}
use Rattle.trace.specs.Fields.{vote_of, timeout_of, block_of}
use Rattle.trace.specs.Layout.{block_qc, timeout_qc, tc_body, qc_part, tc_part, payload_of}
use Rattle.trace.proofs.FieldLaws.{vote-verdict, timeout-verdict}
use Rattle.trace.proofs.FormLaws.{formed}
use Rattle.trace.specs.declared.events.BlockTc.{BlockTc}
use Rattle.outputs.specs.Records.{Rec, make, make_with}
use Rattle.aggregator.specs.Tally.{signers}
use Rattle.replica.specs.Step.{World, committee, handled}
use Rattle.replica.proofs.StartedLaws.{started-ready}
use Rattle.runs.specs.Runs.{Event, step_on, Written}
use Rattle.runs.proofs.Steps.{Started, step_in, Gives, formless, again, roomless, limited, gives, step_is}
use Rattle.runs.proofs.Tallied.{Quorate}
use Rattle.runs.proofs.Kept.{Signatures, unknown, every-written, Kept, Writes, Good, good-quiet}
use Rattle.runs.proofs.Handled.{SureQC, SureTC, Mine, good-handled-vote, good-handled-timeout, good-handled-tc, good-handled-tick, good-processed, good-proposed}

-- ---- true results

pub record SureEvent (g : Signatures) (e : Event) : Type 0 where
  pub vote : form_of e.bytes ≡ Some Kind.Vote → let v = vote_of e.bytes in v.verdict ≡ 1 → g.votes v.author.0 v.hash v.round.0
  pub timeout : form_of e.bytes ≡ Some Kind.Timeout → let t = timeout_of e.bytes in t.verdict ≡ 1 → g.expires t.author.0 t.round.0 t.qc_round.0
  pub timeout-qc : form_of e.bytes ≡ Some Kind.Timeout → SureQC g (qc_part e.bytes timeout_qc)
  pub tc : form_of e.bytes ≡ Some Kind.Tc → SureTC g (tc_part e.bytes tc_body)
  pub block-qc : form_of e.bytes ≡ Some Kind.Propose → SureQC g (qc_part e.bytes block_qc)
  pub block-tc : form_of e.bytes ≡ Some Kind.Propose → (k : BlockTc) → (block_of e.bytes).tc ≡ Some k → SureTC g (tc_part e.bytes k.at)

-- a record without a form brings none
pub sure-bad : (g : Signatures) (e : Event) → form_of e.bytes ≡ None → SureEvent g e
sure-bad g e z =
    record {
      vote = λ f. absurd (let x : Some Kind.Vote ≡ None = sym f ∙ z in let y : ◌≡◌ {A = ℕ} 0 1 = cc in omega arith);
      timeout = λ f. absurd (let x : Some Kind.Timeout ≡ None = sym f ∙ z in let y : ◌≡◌ {A = ℕ} 0 1 = cc in omega arith);
      timeout-qc = λ f. absurd (let x : Some Kind.Timeout ≡ None = sym f ∙ z in let y : ◌≡◌ {A = ℕ} 0 1 = cc in omega arith);
      tc = λ f. absurd (let x : Some Kind.Tc ≡ None = sym f ∙ z in let y : ◌≡◌ {A = ℕ} 0 1 = cc in omega arith);
      block-qc = λ f. absurd (let x : Some Kind.Propose ≡ None = sym f ∙ z in let y : ◌≡◌ {A = ℕ} 0 1 = cc in omega arith);
      block-tc = λ f. absurd (let x : Some Kind.Propose ≡ None = sym f ∙ z in let y : ◌≡◌ {A = ℕ} 0 1 = cc in omega arith);
    }

-- a mark of a record that has its form is 0 or 1
small-mark : (x : ℕ) (xs : List ℕ) → any_above 1 (x ∷ xs) ≡ false → (x ≡ 0 → ⊥) → x ≡ 1
unfolding any_above
small-mark x xs e n = cases (ltb 1 x) refl e
  where
    one : (y : ℕ) → y ≤ 1 → (y ≡ 0 → ⊥) → y ≡ 1
    one zero l n = absurd (n refl)
    one (suc zero) l n = refl
    one (suc (suc y)) l n = absurd (omega arith)

    cases : (b : Bool) → ltb 1 x ≡ b → cond b true (any_above 1 xs) ≡ false → x ≡ 1
    cases true f g = absurd (let z : ◌≡◌ {A = ℕ} 0 1 = cc in omega arith)
    cases false f g = one x (ltb-false 1 x f) n

vote-yes : (r : List ℕ) → form_of r ≡ Some Kind.Vote → ((vote_of r).verdict ≡ 0 → ⊥) → (vote_of r).verdict ≡ 1
vote-yes r f n = vote-verdict r ∙ small-mark _ _ (formed r Kind.Vote f).marks (λ z. n (vote-verdict r ∙ z))

timeout-yes : (r : List ℕ) → form_of r ≡ Some Kind.Timeout → ((timeout_of r).verdict ≡ 0 → ⊥) → (timeout_of r).verdict ≡ 1
timeout-yes r f n = timeout-verdict r ∙ small-mark _ _ (formed r Kind.Timeout f).marks (λ z. n (timeout-verdict r ∙ z))

-- ---- every event

module _ (w : World) (e : Event) (t : Stake) (s : Started w t) where
  few : length (committee w) ≤ members_max
  few = (started-ready w.seat w.stakes w.state.votes w.state.timeouts t s).sound.few

  module _ (g : Signatures) (k : Kept (committee w) g w.state) (sure : SureEvent g e) where
    good-kind : (i : Kind) → form_of e.bytes ≡ Some i → Mine g w.seat.own.0 (handled w e.bytes i).outs → Good (committee w) g (step_in (handled w e.bytes i))
    good-kind Kind.Start f mine = good-quiet (committee w) g k
    good-kind Kind.Propose f mine = good-proposed (committee w) g few w.seat.own.0 k w.table e.bytes (payload_of e.bytes) (sure.block-qc f) mine
    good-kind Kind.Vote f mine = good-handled-vote (committee w) g few w.seat.own.0 k (vote_of e.bytes) (λ n. sure.vote f (vote-yes e.bytes f n))
    good-kind Kind.Timeout f mine = good-handled-timeout (committee w) g few w.seat.own.0 k e.bytes (λ n. sure.timeout f (timeout-yes e.bytes f n)) (sure.timeout-qc f)
    good-kind Kind.Tc f mine = good-handled-tc (committee w) g few w.seat.own.0 k e.bytes (sure.tc f)
    good-kind Kind.Loopback f mine = good-processed (committee w) g few w.seat.own.0 k w.table (block_of e.bytes) mine
    good-kind Kind.Tick f mine = good-handled-tick (committee w) g few w.seat.own.0 k mine

    -- L4, L8: the names in the tallies, in the high QC and in the certificates of MAKE are then those of members that signed.
    pub good-step : Mine g w.seat.own.0 (step_on w e).outs → Good (committee w) g (step_in (step_on w e))
    good-step mine = cases (step_is w e t s)
      where
        cases : Gives w e (form_of e.bytes) (step_on w e) → Good (committee w) g (step_in (step_on w e))
        cases (formless x) = rw x (good-quiet (committee w) g k)
        cases (again x) = rw x (good-quiet (committee w) g k)
        cases (roomless x) = rw x (good-quiet (committee w) g k)
        cases (limited i h x) = rw x (good-quiet (committee w) g k)
        cases (gives i h y z x) = rw x (good-kind i h (rw x at mine))

  -- ---- whatever the results are

  module _ (k : Kept (committee w) unknown w.state) where
    pub good-any : Good (committee w) unknown (step_in (step_on w e))
    good-any =
        good-step unknown k
        (record {
          vote = λ f v. tt;
          timeout = λ f v. tt;
          timeout-qc = λ f o v p i. tt;
          tc = λ f v p i. tt;
          block-qc = λ f o v p i. tt;
          block-tc = λ f k z v p i. tt;
        })
        (record { votes = λ to n h v. tt; expires = λ u q v. tt })

    any-written : {a : Rec} → Written a (step_on w e).outs → Writes (committee w) unknown (step_on w e).world.state.core a
    any-written = every-written (Writes (committee w) unknown (step_on w e).world.state.core) good-any.outs

    -- The QC of a MAKE is the high QC after the event,
    pub make-high : {n : ℕ} {q : QC} → Written (make n q) (step_on w e).outs → q ≡ (step_on w e).world.state.core.high_qc
    make-high v = (any-written v).makes

    -- and so with a TC, whose names are a quorum of members with stake.
    pub make-with-high : {n of names : ℕ} {q : QC} {highs : List ℕ} → Written (make_with n q of names highs) (step_on w e).outs
        → (q ≡ (step_on w e).world.state.core.high_qc) × Quorate (committee w) (signers names)
    make-with-high v = ((any-written v).makes.0, (any-written v).makes.1.quorum)
