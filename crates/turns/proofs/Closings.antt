-- The ANSWER behind the outputs: a law for each way out of `close`.
--     close_more        no record
--     close-answers     the ANSWER is written
--     close-small, close-full      no room is left for it
-- Assumes nothing.
use Prim.Native.Nat.{ℕ, ◌+◌, ◌-◌, ◌≤◌, ◌<◌}
use mathlib.Core.Bool.{Bool, true, false, cond, not, true≢false}
use mathlib.Core.List.{List, [], ◌∷◌}
use mathlib.Core.Path.{◌≡◌, refl, sym}
use native.Mathlib.Omega.{arith}
use borrow.Author.Tests.{le-leb, lt-leb, leb-true}
use denote.Enum.Bare.{sameb}
use lib.Dec.{leb}
use lib.ListN.{length}
use Rattle.certificates.specs.Error.{number}
use Rattle.outputs.specs.Records.{answer, answer_size, enc, enc_all}
use Rattle.outputs.specs.Put.{Put}
use Rattle.outputs.proofs.Wrote.{all_none, all_one, wrote_none, wrote_one}
use Rattle.outputs.proofs.Sizes.{length-enc}
use Rattle.replica.specs.declared.stages.Stepped.{Stepped}
use Rattle.turns.specs.declared.turn.Met.{Met}
use Rattle.turns.specs.declared.turn.Met.TheVariants.{Answered, More, TooLong}
use Rattle.turns.specs.contracts.turn.Met.{the_type}
use Rattle.turns.specs.Code.{closing, Closes}
use Rattle.turns.specs.declared.turn.Run.{Run}
use Rattle.turns.specs.declared.turn.Ahead.{Ahead}

-- ---- the code's `!=`

pub not_more : (met : Met) → true ≡ not (sameb the_type met More) → met ≡ More → ⊥
not_more Answered h e = cc
not_more More h e = true≢false h
not_more TooLong h e = cc

pub is_more : (met : Met) → false ≡ not (sameb the_type met More) → met ≡ More
is_more Answered h = absurd (true≢false (sym h))
is_more More h = refl
is_more TooLong h = absurd (true≢false (sym h))

-- ---- the ways out

module _ (run : Run) (ahead : Ahead) (x : Stepped) (before : List ℕ) where
  abbrev run' : Run
  run' = record { seat = x.seat; core = x.core; at = ahead.to; have = run.have }

  -- nothing is written
  silent : closing ahead.met x (length before) ≡ [] → Closes run ahead x before (record { run = run'; written = x.written; met = ahead.met }) before
  silent e = record { next = refl; met = refl; wrote = rw e (wrote_none answer_size before x.written) }

  pub close_more : ahead.met ≡ More → Closes run ahead x before (record { run = run'; written = x.written; met = ahead.met }) before
  close_more e = silent (rw e)

  closing-other : (met : Met) (room : ℕ) → (met ≡ More → ⊥) → closing met x room ≡ cond (leb (x.written + answer_size) room) (answer (number x.answer) ∷ []) []
  closing-other Answered room e = refl
  closing-other More room e = absurd (e refl)
  closing-other TooLong room e = refl

  module _ (e : ahead.met ≡ More → ⊥) where
    pub close-small : length before < answer_size → Closes run ahead x before (record { run = run'; written = x.written; met = ahead.met }) before
    close-small h = let k : length before < x.written + answer_size = omega arith in silent (rw (closing-other ahead.met (length before) e, lt-leb _ _ k))

    module _ (h : answer_size ≤ length before) where
      pub close-full : length before - answer_size < x.written → Closes run ahead x before (record { run = run'; written = x.written; met = ahead.met }) before
      close-full l = let k : length before < x.written + answer_size = omega arith in silent (rw (closing-other ahead.met (length before) e, lt-leb _ _ k))

      pub close-answers : {after : List ℕ} {a n : ℕ} → x.written ≤ length before - answer_size → a ≡ number x.answer
          → Put before x.written answer_size (enc (answer a)) after n
          → Closes run ahead x before (record { run = run'; written = n; met = ahead.met }) after
      close-answers l i p =
          let k : x.written + answer_size ≤ length before = omega arith in
          record { next = refl; met = refl; wrote = rw (closing-other ahead.met (length before) e, le-leb _ _ k) (wrote_one (answer (number x.answer)) (rw i at p)) }

-- ---- it fits

fits_by : (t : Bool) (n room written : ℕ) → t ≡ leb (written + answer_size) room → written ≤ room
    → written + length (enc_all (cond t (answer n ∷ []) [])) ≤ room
fits_by true n room written e h =
    let k = leb-true _ _ (sym e) in
    rw (all_one (answer n), length-enc (answer n)) k
fits_by false n room written e h = rw all_none (omega arith)

pub closing-fits : (met : Met) (x : Stepped) (room : ℕ) → x.written ≤ room → x.written + length (enc_all (closing met x room)) ≤ room
closing-fits Answered x room h = fits_by (leb (x.written + answer_size) room) (number x.answer) room x.written refl h
closing-fits More x room h = rw all_none (omega arith)
closing-fits TooLong x room h = fits_by (leb (x.written + answer_size) room) (number x.answer) room x.written refl h
