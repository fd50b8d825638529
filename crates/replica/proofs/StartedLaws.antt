-- Laws of counting as started and of the room: one for each way out, and what a started record gives the handlers. Assumes nothing.
use Prim.Native.Nat.{ℕ, ◌-◌, ◌≤◌, ◌<◌}
use mathlib.Core.Bool.{Bool, true, false, not, cond, ◌||◌, true≢false}
use mathlib.Core.List.{List}
use mathlib.Core.Path.{◌≡◌, refl, sym, ◌∙◌, ap}
use native.Mathlib.Omega.{arith}
use borrow.Author.Tests.{eq-eqb, le-leb, lt-ltb, eqb-true, ltb-true, leb-true}
use lib.Dec.{eqb, ltb, leb}
use lib.ListN.{length, take, drop}
use lib.Seq.{length-take-le}
use Rattle.std.specs.Prelude.{Option, None, Some}
use Rattle.certificates.specs.Config.{members_max, total_max, sum, setup_of}
use Rattle.certificates.specs.declared.numbers.Stake.{Stake}
use Rattle.certificates.proofs.ConfigLaws.{within}
use Rattle.aggregator.specs.Tally.{vote_width, timeout_width}
use Rattle.aggregator.specs.Tallies.{vote_tallies, timeout_tallies, votes_length, timeouts_length, heavy, any_heavy}
use Rattle.aggregator.proofs.Laws.{light-of, light-more}
use Rattle.handlers.specs.Sound.{Sound}
use Rattle.replica.specs.declared.started.Seat.{Seat}
use Rattle.replica.specs.Started.{members_of, sized, shaped, light_in, started_of}

-- a setup that is bad is none with a total
bad≢total : {t : Stake} → ◌≡◌ {A = Option Stake} None (Some t) → ⊥
bad≢total e = let z : ◌≡◌ {A = ℕ} 0 1 = cc in omega arith

total-same : {t u : Stake} → ◌≡◌ {A = Option Stake} (Some u) (Some t) → u ≡ t
total-same e = cc

-- ---- back from a test to its facts

-- both of two tests hold
both : (a b : Bool) → cond a b false ≡ true → (a ≡ true) × (b ≡ true)
both true b e = (refl, e)
both false b e = absurd (true≢false (sym e))

pub record Sized (stakes votes timeouts : ℕ) : Type 0 where
  pub members : stakes ≡ members_max
  pub long : votes ≡ votes_length
  pub wide : timeouts ≡ timeouts_length

pub sized-has : (stakes votes timeouts : ℕ) → sized stakes votes timeouts ≡ true → Sized stakes votes timeouts
unfolding sized
sized-has stakes votes timeouts e =
    let a = both (eqb stakes members_max) _ e in
    let b = both (eqb votes votes_length) _ a.1 in
    record { members = eqb-true _ _ a.0; long = eqb-true _ _ b.0; wide = eqb-true _ _ b.1 }

pub record Shaped (seat : Seat) (stakes votes timeouts : ℕ) : Type 0 where
  pub few : seat.count ≤ members_max
  pub own : seat.own.0 < seat.count
  pub sizes : Sized stakes votes timeouts

pub shaped-has : (seat : Seat) (stakes votes timeouts : ℕ) → shaped seat stakes votes timeouts ≡ true → Shaped seat stakes votes timeouts
unfolding shaped
shaped-has seat stakes votes timeouts e =
    let a = both (leb seat.count members_max) _ e in
    let b = both (ltb seat.own.0 seat.count) _ a.1 in
    record { few = leb-true _ _ a.0; own = ltb-true _ _ b.0; sizes = sized-has stakes votes timeouts b.1 }

-- ---- one law for each way out

module _ (stakes votes timeouts : ℕ) where
  pub sized-all : stakes ≡ members_max → votes ≡ votes_length → eqb timeouts timeouts_length ≡ sized stakes votes timeouts
  unfolding sized
  sized-all a b = rw (eq-eqb _ _ a, eq-eqb _ _ b)

  module _ (seat : Seat) where
    pub shaped-all : {t : Bool} → seat.count ≤ members_max → seat.own.0 < seat.count → t ≡ sized stakes votes timeouts → t ≡ shaped seat stakes votes timeouts
    unfolding shaped
    shaped-all a b e = rw (le-leb _ _ a, lt-ltb _ _ b) e

light-by : (a b : Bool) (t : Stake) → cond (not (a || b)) (Some t) None ≡ cond a None (cond b None (Some t))
light-by true b t = refl
light-by false true t = refl
light-by false false t = refl

module _ (votes timeouts : List ℕ) (t : Stake) {l : Bool} (e : l ≡ not (any_heavy votes timeouts t.0)) where
  light-is : cond l (Some t) None ≡ light_in votes timeouts (Some t)
  unfolding any_heavy
  light-is = rw e (light-by (heavy vote_width vote_tallies votes t.0) (heavy timeout_width timeout_tallies timeouts t.0) t)

  pub light-all : l ≡ true → Some t ≡ light_in votes timeouts (Some t)
  light-all h = rw h at light-is

  pub light-not : l ≡ false → None ≡ light_in votes timeouts (Some t)
  light-not h = rw h at light-is

-- the committee, as it is lent out of the stakes
pub members-part : (seat : Seat) (stakes : List ℕ) → take (seat.count - 0) (drop 0 stakes) ≡ members_of seat stakes
members-part seat stakes = let e : seat.count - 0 ≡ seat.count = omega arith in rw e

-- ---- a record that counts as started

good-setup : (votes timeouts : List ℕ) (st : Option Stake) (v k : Bool) (t u : Stake)
    → st ≡ Some u → heavy vote_width vote_tallies votes u.0 ≡ v → heavy timeout_width timeout_tallies timeouts u.0 ≡ k → light_in votes timeouts st ≡ Some t
    → (u ≡ t) × (v ≡ false) × (k ≡ false)
good-setup votes timeouts st true k t u s e f h = absurd (bad≢total (rw (s, e) at h))
good-setup votes timeouts st false true t u s e f h = absurd (bad≢total (rw (s, e, f) at h))
good-setup votes timeouts st false false t u s e f h = (total-same (rw (s, e, f) at h), refl, refl)

light-parts : (votes timeouts : List ℕ) (st : Option Stake) (t : Stake) → light_in votes timeouts st ≡ Some t
    → (st ≡ Some t) × (heavy vote_width vote_tallies votes t.0 ≡ false) × (heavy timeout_width timeout_tallies timeouts t.0 ≡ false)
light-parts votes timeouts None t h = absurd (bad≢total h)
light-parts votes timeouts (Some u) t h =
    let p = good-setup votes timeouts (Some u) _ _ t u refl refl refl h in
    (ap Some p.0, rw p.0 at p.1, rw p.0 at p.2)

started-parts : (seat : Seat) (stakes votes timeouts : List ℕ) (b : Bool) (t : Stake) → cond b (light_in votes timeouts (setup_of (members_of seat stakes))) None ≡ Some t
    → (b ≡ true) × (light_in votes timeouts (setup_of (members_of seat stakes)) ≡ Some t)
started-parts seat stakes votes timeouts true t h = (refl, h)
started-parts seat stakes votes timeouts false t h = absurd (bad≢total h)

-- what it gives the handlers, and the quorum
pub record Ready (seat : Seat) (stakes votes timeouts : List ℕ) (t : Stake) : Type 0 where
  pub count : seat.count ≤ length stakes
  pub sound : Sound (members_of seat stakes) seat.own.0 votes timeouts
  pub total : t.0 ≡ sum (members_of seat stakes)

pub started-ready : (seat : Seat) (stakes votes timeouts : List ℕ) (t : Stake) → started_of seat stakes votes timeouts ≡ Some t → Ready seat stakes votes timeouts t
unfolding started_of
started-ready seat stakes votes timeouts t h =
    let a = started-parts seat stakes votes timeouts (shaped seat (length stakes) (length votes) (length timeouts)) t h in
    let s = shaped-has seat (length stakes) (length votes) (length timeouts) a.0 in
    let l = light-parts votes timeouts (setup_of (members_of seat stakes)) t a.1 in
    let w = within (members_of seat stakes) t l.0 in
    let n : seat.count ≤ length stakes = omega (arith, s.few, s.sizes.members) in
    let k : length (members_of seat stakes) ≡ seat.count = length-take-le seat.count stakes n in
    record {
      count = n;
      total = w.total;
      sound =
          record {
            few = w.few;
            member = rw k s.own;
            small = omega (arith, w.total, w.small);
            long = s.sizes.long;
            wide = s.sizes.wide;
            light = light-more vote_width vote_tallies votes t.0 total_max w.small (light-of vote_width vote_tallies votes t.0 l.1);
            late = light-more timeout_width timeout_tallies timeouts t.0 total_max w.small (light-of timeout_width timeout_tallies timeouts t.0 l.2);
          };
    }

-- what a record of the right shape gives the code that looks further
module _ (seat : Seat) (stakes votes timeouts : ℕ) {b : Bool} (e : b ≡ shaped seat stakes votes timeouts) (h : b ≡ true) where
  pub shaped-fits : seat.count ≤ stakes
  shaped-fits = let s = shaped-has seat stakes votes timeouts (sym e ∙ h) in omega (arith, s.few, s.sizes.members)

  pub shaped-long : votes ≡ votes_length
  shaped-long = (shaped-has seat stakes votes timeouts (sym e ∙ h)).sizes.long

  pub shaped-wide : timeouts ≡ timeouts_length
  shaped-wide = (shaped-has seat stakes votes timeouts (sym e ∙ h)).sizes.wide
