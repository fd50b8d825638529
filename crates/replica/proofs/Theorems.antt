-- What follows from the definition of a step. Assumes nothing.
--     step-unique        the contract permits one outcome
--     past-unchanged     "Output bytes past the written count never change."
--     refused-left       an early refusal writes nothing, and leaves the world
--     bad-record .. limited    the order of refusals, 16, 34 or 33, 18, 17, then 32, 20, 19: each leaves the world and writes nothing
use Prim.Native.Nat.{ℕ}
use mathlib.Core.Bool.{true, false, true≢false}
use borrow.Author.Tests.{ne_eqb}
use mathlib.Core.List.{List}
use mathlib.Core.Path.{◌≡◌, refl, sym, ◌∙◌}
use lib.ListN.{length, drop}
use lib.Seq.{drop-append_seam}
use Rattle.std.specs.Prelude.{None, Some}
use Rattle.certificates.specs.Error.{bad_record, bad_setup, no_room, not_started, started_again}
use Rattle.certificates.specs.Start.{setup_at}
use Rattle.certificates.specs.declared.numbers.Stake.{Stake}
use Rattle.trace.specs.declared.events.Kind.{Kind}
use Rattle.trace.specs.Form.{form_of}
use Rattle.trace.specs.Limits.{limit_of}
use Rattle.outputs.specs.Records.{enc_all}
use Rattle.replica.specs.Started.{roomy}
use Rattle.replica.specs.Step.{World, Result, Left, laid, refused_in, begun, sized_in, on_kind, on_other, started, stepped}
use Rattle.replica.specs.Stages.{is_start}

-- two outcomes that the contract permits are one
pub step-unique : {a b : Left} (w : World) (out r : List ℕ) → a ≡ laid (stepped w (length out) r) out → b ≡ laid (stepped w (length out) r) out → a ≡ b
step-unique w out r p q = p ∙ sym q

-- the bytes past the written count are those that were there
pub past-unchanged : (x : Result) (out : List ℕ) → drop (laid x out).written (laid x out).out ≡ drop (laid x out).written out
unfolding laid
past-unchanged x out = drop-append_seam (enc_all x.outs) (drop (length (enc_all x.outs)) out)

-- an early refusal as it is laid out
pub refused-left : (n : ℕ) (w : World) (out : List ℕ) → laid (refused_in n w) out ≡ record { answer = n; world = w; written = 0; out = out }
unfolding laid enc_all
refused-left n w out = refl

-- ---- the order of refusals, one row for each number

module _ (w : World) (room : ℕ) (r : List ℕ) where
  -- 16 first, whatever else holds
  pub bad-record : form_of r ≡ None → stepped w room r ≡ refused_in bad_record w
  unfolding stepped
  bad-record e = rw e

  -- then 34 for START
  pub again : {t : Stake} → form_of r ≡ Some Kind.Start → started w ≡ Some t → stepped w room r ≡ refused_in started_again w
  unfolding stepped
  again e s = rw (e, s)

  -- and 18
  pub start-roomless : form_of r ≡ Some Kind.Start → started w ≡ None → roomy (length w.table) room ≡ false → stepped w room r ≡ refused_in no_room w
  unfolding stepped
  start-roomless e s h = rw (e, s, h)

  -- 17 comes after 18
  pub start-bad : form_of r ≡ Some Kind.Start → started w ≡ None → roomy (length w.table) room ≡ true → sized_in w ≡ true → setup_at (drop 2 r) ≡ None
      → stepped w room r ≡ refused_in bad_setup w
  unfolding stepped begun
  start-bad e s h z b = rw (e, s, h, z, b)

  -- any other record: 33, then 18, then what its limits say
  module _ (k : Kind) (o : is_start k ≡ false) where
    other-kind : on_kind w room r (Some k) ≡ on_other w room r k (started w)
    other-kind = by_kind k o
      where
        by_kind : (k : Kind) → is_start k ≡ false → on_kind w room r (Some k) ≡ on_other w room r k (started w)
        by_kind Kind.Start o = absurd (true≢false o)
        by_kind Kind.Propose o = refl
        by_kind Kind.Vote o = refl
        by_kind Kind.Timeout o = refl
        by_kind Kind.Tc o = refl
        by_kind Kind.Loopback o = refl
        by_kind Kind.Tick o = refl

    pub not-started : form_of r ≡ Some k → started w ≡ None → stepped w room r ≡ refused_in not_started w
    unfolding stepped
    not-started e s = rw e (other-kind ∙ rw s)

    module _ {t : Stake} (e : form_of r ≡ Some k) (s : started w ≡ Some t) where
      pub roomless : roomy (length w.table) room ≡ false → stepped w room r ≡ refused_in no_room w
      unfolding stepped
      roomless h = rw e (other-kind ∙ rw (s, h))

      pub limited : roomy (length w.table) room ≡ true → (limit_of r k ≡ 0 → ⊥) → stepped w room r ≡ refused_in (limit_of r k) w
      unfolding stepped
      limited h l = rw e (other-kind ∙ rw (s, h, ne_eqb _ _ l))
