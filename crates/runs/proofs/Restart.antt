-- A replica that is put back (02, W3): the part by value, count, own place and stakes stay, tallies and table are empty. Assumes nothing.
--     leaves-core, leaves-seat     what stays
--     leaves-started               it counts as started still
--     leaves_kept                  tallies, high QC and rounds are as they must be still
--     leaves-has, leaves-closed    the table holds nothing that it did not hold before, and is closed if it was
use Prim.Native.Nat.{ℕ}
use mathlib.Core.Bool.{Bool, true, false, cond}
use mathlib.Core.List.{List}
use mathlib.Core.Path.{◌≡◌, refl, sym, ◌∙◌}
use native.Mathlib.Nat.{le_refl}
use native.Mathlib.Omega.{arith}
use lib.ListN.{length-replicate}
use Rattle.certificates.specs.declared.numbers.Stake.{Stake}
use Rattle.aggregator.specs.Tally.{vote_width, timeout_width}
use Rattle.aggregator.specs.Tallies.{vote_tallies, timeout_tallies, votes_length, timeouts_length}
use Rattle.aggregator.proofs.Laws.{zeros-light}
use Rattle.synchronizer.specs.declared.table.Slot.{Slot}
use Rattle.synchronizer.proofs.Lookups.{Has, cleared-has, Closed, closed-cleared}
use Rattle.replica.specs.Step.{World}
use Rattle.replica.proofs.StartedLaws.{started-ready}
use Rattle.runs.specs.Courses.{Stage, emptied, put_back, leaves}
use Rattle.runs.proofs.Lawful.{Stays}
use Rattle.runs.proofs.Steps.{Started, stays-started}
use Rattle.runs.proofs.Kept.{Signatures, Kept, kept-emptied}

-- tallies that are empty are as long as they were, and none is heavy
emptied-stays : (w : World) (t : Stake) → Started w t → Stays t.0 w.state (emptied w.state)
emptied-stays w t s =
    let k = (started-ready w.seat w.stakes w.state.votes w.state.timeouts t s).sound in
    record {
      votes = length-replicate {A = ℕ} votes_length 0 ∙ sym k.long;
      timeouts = length-replicate {A = ℕ} timeouts_length 0 ∙ sym k.wide;
      votes-light = λ h. zeros-light vote_width vote_tallies votes_length t.0 (omega arith);
      timeouts-light = λ h. zeros-light timeout_width timeout_tallies timeouts_length t.0 (omega arith);
      round = le_refl _;
      high = le_refl _;
    }

core-by : (b : Bool) (w : World) → (cond b (put_back w) w).state.core ≡ w.state.core
core-by true w = refl
core-by false w = refl

seat-by : (b : Bool) (w : World) → ((cond b (put_back w) w).seat ≡ w.seat) × ((cond b (put_back w) w).stakes ≡ w.stakes)
seat-by true w = (refl, refl)
seat-by false w = (refl, refl)

started-by : (b : Bool) (w : World) (t : Stake) → Started w t → Started (cond b (put_back w) w) t
started-by true w t s = stays-started w.seat w.stakes w.state (emptied w.state) t (emptied-stays w t s) s
started-by false w t s = s

kept_by : (m : List ℕ) (g : Signatures) (b : Bool) (w : World) → Kept m g w.state → Kept m g (cond b (put_back w) w).state
kept_by m g true w k = kept-emptied m g k
kept_by m g false w k = k

has-by : (b : Bool) (w : World) (s : Slot) → Has (cond b (put_back w) w).table s → Has w.table s
has-by true w s h = absurd (cleared-has w.table s h)
has-by false w s h = h

closed-by : (b : Bool) (w : World) → Closed w.table → Closed (cond b (put_back w) w).table
closed-by true w c = closed-cleared w.table
closed-by false w c = c

module _ (g : Stage) (w : World) where
  pub leaves-core : (leaves g w).state.core ≡ w.state.core
  leaves-core = core-by g.cut w

  pub leaves-seat : ((leaves g w).seat ≡ w.seat) × ((leaves g w).stakes ≡ w.stakes)
  leaves-seat = seat-by g.cut w

  pub leaves-started : (t : Stake) → Started w t → Started (leaves g w) t
  leaves-started t s = started-by g.cut w t s

  pub leaves_kept : (m : List ℕ) (h : Signatures) → Kept m h w.state → Kept m h (leaves g w).state
  leaves_kept m h k = kept_by m h g.cut w k

  pub leaves-has : (s : Slot) → Has (leaves g w).table s → Has w.table s
  leaves-has s h = has-by g.cut w s h

  pub leaves-closed : Closed w.table → Closed (leaves g w).table
  leaves-closed c = closed-by g.cut w c
