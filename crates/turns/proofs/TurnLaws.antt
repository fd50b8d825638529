-- What the code of a turn did, put together: what is left is the definition's.
--     empty-record      an empty record is a bad one: 16, and nothing changes
--     step_fits         what an event wrote lies in the output
--     turn-left         what is met, the run, the world and every byte are `turned`'s
--     turn-fits, turn-room      what is written lies in the output, and is bounded
-- Assumes nothing.
use Prim.Native.Nat.{ℕ, ◌+◌, ◌-◌, ◌≤◌}
use mathlib.Core.Bool.{Bool, true, false}
use mathlib.Core.List.{List, [], ◌++◌}
use mathlib.Core.Path.{◌≡◌, refl, sym, ap, ◌∙◌}
use native.Mathlib.Nat.{zero-add}
use native.Mathlib.Omega.{arith}
use lib.ListN.{length, drop, length-append, length-drop}
use lib.Seq.{sets-eq}
use Rattle.certificates.specs.Error.{number}
use Rattle.std.specs.Prelude.{None}
use Rattle.certificates.specs.Error.{bad_record}
use Rattle.trace.specs.Part.{between}
use Rattle.trace.specs.Form.{form_of}
use Rattle.trace.specs.Record.{split_of, record_of}
use Rattle.trace.specs.declared.record.Front.{Front}
use Rattle.trace.specs.declared.record.Front.TheVariants.{End, Cut, Small, Record}
use Rattle.outputs.specs.Records.{Rec, answer_size, enc_all}
use Rattle.outputs.specs.Put.{Wrote}
use Rattle.outputs.proofs.Wrote.{wrote_then, wrote-start, wrote_count}
use Rattle.synchronizer.specs.declared.table.Slot.{Slot}
use Rattle.replica.specs.declared.stages.Stepped.{Stepped}
use Rattle.replica.specs.declared.step.Order.{Order}
use Rattle.replica.specs.Started.{room_for}
use Rattle.replica.specs.Step as step
use Rattle.replica.specs.Step.{World, Result, refused_in, world, laid, stepped}
use Rattle.replica.specs.Order.{record_in}
use Rattle.replica.proofs.Theorems.{bad-record}
use Rattle.turns.specs.declared.turn.Run.{Run}
use Rattle.turns.specs.declared.turn.Met.{Met}
use Rattle.turns.specs.declared.turn.Met.TheVariants.{Answered, More, TooLong}
use Rattle.turns.specs.declared.turn.Turned.{Turned}
use Rattle.turns.specs.declared.turn.Ahead.{Ahead}
use Rattle.turns.specs.Turn.{is_too_long, answers_in, Turning, turned_by, turned, Left, laid_in, left_by}
use Rattle.turns.specs.Code.{ahead_by, ahead_of, order_at, closing, Closes}
use Rattle.turns.proofs.Fronts.{taken_by, ahead-to, ahead-record-is}
use Rattle.turns.proofs.Closings.{closing-fits}

-- ---- an empty record

empty-form : form_of [] ≡ None
unfolding form_of
empty-form = refl

pub empty-record : (w : World) (room : ℕ) → stepped w room [] ≡ refused_in bad_record w
empty-record w room = bad-record w room [] empty-form

-- ---- a turn, by what an event on the record at the front gives

abbrev ending : Met → ℕ → Result → List Rec
ending Answered room x = answers_in room x.outs x.answer
ending More room x = []
ending TooLong room x = answers_in room x.outs x.answer

abbrev turning : Met → ℕ → ℕ → Result → Turning
turning met taken room x = record { met = met; world = x.world; taken = taken; outs = x.outs ++ ending met room x }

module _ (w : World) (room : ℕ) (s : List ℕ) where
  cut-turning : (long : Bool) → is_too_long s ≡ long → turned_by Cut w room s ≡ turning (ahead_by Cut 0 s).met 0 room (refused_in bad_record w)
  cut-turning true e = rw e
  cut-turning false e = rw e

  turning-by : (f : Front) → turned_by f w room s ≡ turning (ahead_by f 0 s).met (taken_by f) room (stepped w room (record_of f s))
  turning-by End = rw (empty-record w room)
  turning-by Cut = rw (empty-record w room) (cut-turning (is_too_long s) refl)
  turning-by (Small end) = refl
  turning-by (Record kind end) = refl

  same_met : (f : Front) (at : ℕ) → (ahead_by f 0 s).met ≡ (ahead_by f at s).met
  same_met End at = refl
  same_met Cut at = refl
  same_met (Small end) at = refl
  same_met (Record kind end) at = refl

-- ---- what an event left

module _ (x : Stepped) {stakes votes timeouts out₁ : List ℕ} {table : List Slot} (y : Result) (out : List ℕ) (p : step.left_by x stakes votes timeouts table out₁ ≡ laid y out) where
  left-answer : number x.answer ≡ y.answer
  unfolding laid
  left-answer = ap (λ (l : step.Left). l.answer) p

  left-world : world x.seat stakes x.core votes timeouts table ≡ y.world
  unfolding laid
  left-world = ap (λ (l : step.Left). l.world) p

  left-written : x.written ≡ length (enc_all y.outs)
  unfolding laid
  left-written = ap (λ (l : step.Left). l.written) p

  left_out : out₁ ≡ enc_all y.outs ++ drop (length (enc_all y.outs)) out
  unfolding laid
  left_out = ap (λ (l : step.Left). l.out) p

  pub step_fits : length out₁ ≡ length out → x.written ≤ length out
  step_fits l =
      let n : length out₁ ≡ length (enc_all y.outs) + (length out - length (enc_all y.outs)) =
      ap length left_out ∙ length-append (enc_all y.outs) _ ∙ rw length-drop in
      omega (arith, left-written)

  left-wrote : length out₁ ≡ length out → Wrote x.written y.outs out 0 out₁ x.written
  left-wrote l =
      let h : 0 + length (enc_all y.outs) ≤ length out = omega (arith, step_fits l, left-written) in
      record {
        place = left-written ∙ sym (zero-add _);
        stored = left_out ∙ sym (sets-eq (enc_all y.outs) out 0 h ∙ rw zero-add);
        room = omega arith;
      }

same-ending : (x : Stepped) (y : Result) (room : ℕ) → x.written ≡ length (enc_all y.outs) → number x.answer ≡ y.answer → (met : Met) → closing met x room ≡ ending met room y
same-ending x y room w a Answered = rw (w, a)
same-ending x y room w a More = refl
same-ending x y room w a TooLong = rw (w, a)

-- ---- put together

same_left : {m m' : Met} {a a' h h' n n' : ℕ} {w w' : World} {o o' : List ℕ} → m ≡ m' → w ≡ w' → a ≡ a' → h ≡ h' → n ≡ n' → o ≡ o'
    → ◌≡◌ {A = Left} (record { met = m; world = w; at = a; have = h; written = n; out = o }) (record { met = m'; world = w'; at = a'; have = h'; written = n'; out = o' })
same_left a b c d e f = rw (a, b, c, d, e, f)

module _ (run : Run) (stakes votes timeouts : List ℕ) (table : List Slot) (out t : List ℕ) {ahead : Ahead} (a : ahead ≡ ahead_of run.at (between run.at run.have t))
    {d : Order} (o : d ≡ order_at run ahead) {x : Stepped} {stakes' votes' timeouts' out₁ : List ℕ} {table' : List Slot}
    (p : step.left_by x stakes' votes' timeouts' table' out₁ ≡ laid (stepped (world d.seat stakes d.core votes timeouts table) (length out) (record_in d t)) out)
    (l : length out₁ ≡ length out) {r : Turned} {out₂ : List ℕ} (c : Closes run ahead x out₁ r out₂) where
  abbrev s : List ℕ
  s = between run.at run.have t

  abbrev w : World
  w = world run.seat stakes run.core votes timeouts table

  abbrev y : Result
  y = stepped w (length out) (record_of (split_of s) s)

  -- the event was that of the record at the front
  asked : stepped (world d.seat stakes d.core votes timeouts table) (length out) (record_in d t) ≡ y
  unfolding ahead_of
  asked = rw (o, a, ahead-record-is run.at run.have t (split_of s) refl)

  p' : step.left_by x stakes' votes' timeouts' table' out₁ ≡ laid y out
  p' = p ∙ ap (λ (z : Result). laid z out) asked

  met-is : ahead.met ≡ (ahead_by (split_of s) 0 s).met
  unfolding ahead_of
  met-is = ap (λ (z : Ahead). z.met) a ∙ sym (same_met w (length out) s (split_of s) run.at)

  to_is : ahead.to ≡ run.at + taken_by (split_of s)
  unfolding ahead_of
  to_is = ap (λ (z : Ahead). z.to) a ∙ ahead-to (split_of s) run.at s

  closing-is : closing ahead.met x (length out₁) ≡ ending (ahead_by (split_of s) 0 s).met (length out) y
  closing-is = rw (met-is, l) (same-ending x y (length out) (left-written x y out p') (left-answer x y out p') _)

  wrote : Wrote (x.written + answer_size) (y.outs ++ ending (ahead_by (split_of s) 0 s).met (length out) y) out 0 out₂ r.written
  wrote = wrote_then (left-wrote x y out p' l) (rw closing-is at c.wrote)

  pub turn-fits : r.written ≤ length out
  turn-fits = omega (arith, l, closing-fits ahead.met x (length out₁) (rw l (step_fits x y out p' l)), c.wrote.place)

  pub turn-room : x.written ≤ room_for (length table) → r.written ≤ room_for (length table) + answer_size
  turn-room h = omega (arith, c.wrote.room)

  turning-is : turned w (length out) s ≡ turning (ahead_by (split_of s) 0 s).met (taken_by (split_of s)) (length out) y
  unfolding turned
  turning-is = turning-by w (length out) s (split_of s)

  laid_out : out₂ ≡ enc_all (y.outs ++ ending (ahead_by (split_of s) 0 s).met (length out) y) ++ drop (length (enc_all (y.outs ++ ending (ahead_by (split_of s) 0 s).met (length out) y))) out
  laid_out =
      wrote-start {k = r.written} (record { place = wrote.place; stored = wrote.stored; room = omega arith }) turn-fits

  left_is : left_by r stakes' votes' timeouts' table' out₂ ≡ laid_in (turning (ahead_by (split_of s) 0 s).met (taken_by (split_of s)) (length out) y) run.at run.have out
  unfolding laid_in
  left_is =
      same_left
      (c.met ∙ met-is)
      (ap (λ (z : Run). world z.seat stakes' z.core votes' timeouts' table') c.next ∙ left-world x y out p')
      (ap (λ (z : Run). z.at) c.next ∙ to_is)
      (ap (λ (z : Run). z.have) c.next)
      (wrote_count wrote)
      laid_out

  pub turn-left : left_by r stakes' votes' timeouts' table' out₂ ≡ laid_in (turned w (length out) s) run.at run.have out
  turn-left = left_is ∙ ap (λ (z : Turning). laid_in z run.at run.have out) (sym turning-is)
