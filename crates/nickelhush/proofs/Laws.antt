-- Laws of the host's memory: one for each way out of the code, and what joins a step to `hosted`. Assumes nothing.
use Prim.Native.Nat.{ℕ, zero, suc, ◌≤◌, ◌<◌}
use mathlib.Core.Bool.{Bool, true, false, cond, true≢false}
use mathlib.Core.List.{List, [], ◌∷◌}
use mathlib.Core.Path.{◌≡◌, refl, sym, ◌∙◌, ap}
use native.Mathlib.Omega.{arith}
use borrow.Author.Tests.{eq-eqb, ne_eqb, eqb-true, ltb-false, le-ltb, lt-ltb}
use lib.Dec.{eqb, ltb, leb}
use lib.ListN.{length, get_or}
use Rattle.certificates.specs.Error.{number}
use Rattle.std.specs.Prelude.{Option, None, Some, is_some}
use Rattle.certificates.specs.Error.{bad_record}
use Rattle.certificates.specs.declared.numbers.Stake.{Stake}
use Rattle.trace.specs.declared.events.Kind.{Kind}
use Rattle.trace.specs.declared.record.Front.{Front}
use Rattle.trace.specs.Form.{form_of}
use Rattle.trace.specs.Record.{split_of}
use Rattle.outputs.specs.Records.{enc_all}
use Rattle.synchronizer.specs.declared.table.Slot.{Slot}
use Rattle.moves.specs.declared.state.Core.{Core}
use Rattle.replica.specs.declared.started.Seat.{Seat}
use Rattle.replica.specs.declared.stages.Stepped.{Stepped}
use Rattle.replica.specs.Started.{slots_max, room_for, roomy}
use Rattle.replica.specs.Step.{World, Left, world, stepped, laid, left_by, started, on_start, on_other, on_kind}
use Rattle.replica.proofs.Theorems.{bad-record, refused-left}
use Rattle.nickelhush.specs.Memory.{seat_length, core_length, fit, ready, seat_of, core_of, seat_numbers, core_numbers, lent, world_of, packed, written_most, handed, handed_by, unfit_answer, hosted, taken_of, sizes, size_of, room_of}

-- ---- the lengths of the seat and the core

both : (a b : Bool) → cond a b false ≡ true → (a ≡ true) × (b ≡ true)
both true b e = (refl, e)
both false b e = absurd (true≢false (sym e))

pub record Fit (seat core : ℕ) : Type 0 where
  pub seat-long : seat ≡ seat_length
  pub core-long : core ≡ core_length

fit_has : (seat core : ℕ) → fit seat core ≡ true → Fit seat core
unfolding fit
fit_has seat core e = let a = both (eqb seat seat_length) _ e in record { seat-long = eqb-true _ _ a.0; core-long = eqb-true _ _ a.1 }

-- ---- ready for a step

ready-fits : (seat core : ℕ) (k : Option Kind) → ready seat core k ≡ true → fit seat core ≡ true
unfolding ready
ready-fits seat core k e = (both (fit seat core) _ e).0

pub ready-has : (seat core : ℕ) (k : Option Kind) → ready seat core k ≡ true → Fit seat core
ready-has seat core k e = fit_has seat core (ready-fits seat core k e)

-- ---- how much an event writes

-- without room nothing is written
roomless-outs : (w : World) (room : ℕ) (r : List ℕ) → roomy (length w.table) room ≡ false → (stepped w room r).outs ≡ []
unfolding stepped
roomless-outs w room r h = by_kind (form_of r)
  where
    of-start : (t : Option Stake) → (on_start w room r t).outs ≡ []
    of-start (Some t) = refl
    of-start None = rw h

    of_other : (k : Kind) (t : Option Stake) → (on_other w room r k t).outs ≡ []
    of_other k (Some t) = rw h
    of_other k None = refl

    by_kind : (k : Option Kind) → (on_kind w room r k).outs ≡ []
    by_kind None = refl
    by_kind (Some Kind.Start) = of-start (started w)
    by_kind (Some Kind.Propose) = of_other Kind.Propose (started w)
    by_kind (Some Kind.Vote) = of_other Kind.Vote (started w)
    by_kind (Some Kind.Timeout) = of_other Kind.Timeout (started w)
    by_kind (Some Kind.Tc) = of_other Kind.Tc (started w)
    by_kind (Some Kind.Loopback) = of_other Kind.Loopback (started w)
    by_kind (Some Kind.Tick) = of_other Kind.Tick (started w)

roomless-written : (w : World) (room : ℕ) (r out : List ℕ) → roomy (length w.table) room ≡ false → (laid (stepped w room r) out).written ≡ 0
unfolding laid enc_all
roomless-written w room r out h = rw (roomless-outs w room r h)

roomy-slots : (slots room : ℕ) → roomy slots room ≡ true → slots ≤ slots_max
unfolding roomy
roomy-slots slots room e = few (eqb slots 0) (ltb slots_max slots) refl e
  where
    few : (a b : Bool) → ltb slots_max slots ≡ b → cond a false (cond b false (leb (room_for slots) room)) ≡ true → slots ≤ slots_max
    few true b h e = absurd (true≢false (sym e))
    few false true h e = absurd (true≢false (sym e))
    few false false h e = ltb-false _ _ h

-- no event writes more than the largest table's room
pub written_small : (s : Stepped) (w : World) (r out : List ℕ) → s.written ≡ (laid (stepped w (length out) r) out).written → s.written ≤ room_for (length w.table) → s.written ≤ written_most
written_small s w r out e l = by (roomy (length w.table) (length out)) refl
  where
    by : (t : Bool) → roomy (length w.table) (length out) ≡ t → s.written ≤ written_most
    by true h = let n = roomy-slots (length w.table) (length out) h in omega (arith, n, l)
    by false h = let z = e ∙ roomless-written w (length out) r out h in omega (arith, z)

-- ---- what is read and written back

seat-again : (ss : List ℕ) → length ss ≡ seat_length → seat_numbers (seat_of ss) ≡ ss
seat-again [] e = absurd (omega (arith, e))
seat-again (a ∷ []) e = absurd (omega (arith, e))
seat-again (a ∷ b ∷ []) e = refl
seat-again (a ∷ b ∷ c ∷ ss) e = absurd (omega (arith, e))

core-again : (cs : List ℕ) → length cs ≡ core_length → core_numbers (core_of cs) ≡ cs
core-again [] e = absurd (omega (arith, e))
core-again (a ∷ []) e = absurd (omega (arith, e))
core-again (a ∷ b ∷ []) e = absurd (omega (arith, e))
core-again (a ∷ b ∷ c ∷ []) e = absurd (omega (arith, e))
core-again (a ∷ b ∷ c ∷ d ∷ []) e = absurd (omega (arith, e))
core-again (a ∷ b ∷ c ∷ d ∷ f ∷ []) e = absurd (omega (arith, e))
core-again (a ∷ b ∷ c ∷ d ∷ f ∷ g ∷ []) e = absurd (omega (arith, e))
core-again (a ∷ b ∷ c ∷ d ∷ f ∷ g ∷ h ∷ []) e = absurd (omega (arith, e))
core-again (a ∷ b ∷ c ∷ d ∷ f ∷ g ∷ h ∷ i ∷ []) e = absurd (omega (arith, e))
core-again (a ∷ b ∷ c ∷ d ∷ f ∷ g ∷ h ∷ i ∷ j ∷ []) e = refl
core-again (a ∷ b ∷ c ∷ d ∷ f ∷ g ∷ h ∷ i ∷ j ∷ k ∷ cs) e = absurd (omega (arith, e))

none-is : (k : Option Kind) → is_some k ≡ false → k ≡ None
none-is None e = refl
none-is (Some k) e = absurd (true≢false e)

-- ---- a step is `hosted`

module _ (ss cs ks vs ts : List ℕ) (ys : List Slot) (zs xs : List ℕ) where
  module _ {a : Seat} {c : Core} (seated : a ≡ seat_of ss) (held : c ≡ core_of cs) (s : Stepped) (ks' vs' ts' : List ℕ) (ys' : List Slot) (zs' : List ℕ)
      (e : left_by s ks' vs' ts' ys' zs' ≡ laid (stepped (world a ks c vs ts ys) (length zs) xs) zs) where
    as_lent : left_by s ks' vs' ts' ys' zs' ≡ laid (stepped (world_of (lent ss cs ks vs ts ys zs)) (length zs) xs) zs
    as_lent = rw (← seated, ← held) e

    pub step_small : s.written ≤ room_for (length ys) → s.written ≤ written_most
    step_small l = written_small s (world_of (lent ss cs ks vs ts ys zs)) xs zs (ap (λ (x : Left). x.written) as_lent) l

    pub host-left : {x : ℕ} {ss' cs' : List ℕ} → ready (length ss) (length cs) (form_of xs) ≡ true
        → (x ≡ packed (number s.answer) s.written) × (ss' ≡ seat_numbers s.seat) × (cs' ≡ core_numbers s.core)
        → handed x (lent ss' cs' ks' vs' ts' ys' zs') ≡ hosted (lent ss cs ks vs ts ys zs) xs
    unfolding hosted handed_by
    host-left f k = rw (ready-fits (length ss) (length cs) (form_of xs) f, k.0, k.1, k.2) (ap handed_by as_lent)

  -- a record that has no form leaves the replica as it is, and that is what it is written back as
  host-bad : fit (length ss) (length cs) ≡ true → form_of xs ≡ None
      → handed (packed (unfit_answer (form_of xs)) 0) (lent ss cs ks vs ts ys zs) ≡ hosted (lent ss cs ks vs ts ys zs) xs
  unfolding hosted handed_by
  host-bad f b =
      let m = world_of (lent ss cs ks vs ts ys zs) in
      let long = fit_has (length ss) (length cs) f in
      rw (f, b, bad-record m (length zs) xs b, refused-left bad_record m zs, seat-again ss long.seat-long, core-again cs long.core-long)

  pub host-refused : {x : ℕ} → ready (length ss) (length cs) (form_of xs) ≡ false → x ≡ packed (unfit_answer (form_of xs)) 0
      → handed x (lent ss cs ks vs ts ys zs) ≡ hosted (lent ss cs ks vs ts ys zs) xs
  unfolding hosted ready
  host-refused {x} h e = by (fit (length ss) (length cs)) refl
    where
      by : (f : Bool) → fit (length ss) (length cs) ≡ f → handed x (lent ss cs ks vs ts ys zs) ≡ hosted (lent ss cs ks vs ts ys zs) xs
      by true f = rw e (host-bad f (none-is (form_of xs) (rw f at h)))
      by false f = rw (f, e)

-- ---- the other exports

module _ (s : List ℕ) {f : Front} (p : f ≡ split_of s) where
  pub at-end : f ≡ Front.End → 0 ≡ taken_of (split_of s)
  at-end e = rw (← p, e)

  pub at_cut : f ≡ Front.Cut → 1 ≡ taken_of (split_of s)
  at_cut e = rw (← p, e)

  pub at_small : {end : ℕ} → f ≡ Front.Small end → end ≡ taken_of (split_of s)
  at_small e = rw (← p, e)

  pub at-record : {kind end : ℕ} → f ≡ Front.Record kind end → end ≡ taken_of (split_of s)
  at-record e = rw (← p, e)

pub size_is : {part : ℕ} (k : ℕ) → part ≡ k → get_or sizes k 0 ≡ size_of part
unfolding size_of
size_is k e = rw e

pub size_none : (part : ℕ) → (part ≡ 0 → ⊥) → (part ≡ 1 → ⊥) → (part ≡ 2 → ⊥) → (part ≡ 3 → ⊥) → (part ≡ 4 → ⊥) → (part ≡ 5 → ⊥) → (part ≡ 6 → ⊥) → 0 ≡ size_of part
unfolding size_of
size_none zero a b c d e f g = absurd (a refl)
size_none (suc zero) a b c d e f g = absurd (b refl)
size_none (suc (suc zero)) a b c d e f g = absurd (c refl)
size_none (suc (suc (suc zero))) a b c d e f g = absurd (d refl)
size_none (suc (suc (suc (suc zero)))) a b c d e f g = absurd (e refl)
size_none (suc (suc (suc (suc (suc zero))))) a b c d e f g = absurd (f refl)
size_none (suc (suc (suc (suc (suc (suc zero)))))) a b c d e f g = absurd (g refl)
size_none (suc (suc (suc (suc (suc (suc (suc k))))))) a b c d e f g = refl

module _ (slots : ℕ) where
  pub room-none : slots ≡ 0 → 0 ≡ room_of slots
  unfolding room_of
  room-none h = rw (eq-eqb _ _ h)

  pub room-many : (slots ≡ 0 → ⊥) → slots_max < slots → 0 ≡ room_of slots
  unfolding room_of
  room-many a h = rw (ne_eqb _ _ a, lt-ltb _ _ h)

  pub room_by : (slots ≡ 0 → ⊥) → slots ≤ slots_max → room_for slots ≡ room_of slots
  unfolding room_of
  room_by a h = rw (ne_eqb _ _ a, le-ltb _ _ h)
