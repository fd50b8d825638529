-- What follows from the definition of a turn and of a whole trace.
--     turn-unique            the contract permits one outcome
--     past-unchanged         "Output bytes past the written count never change."
--     taken-within, at-within     what is taken lies in what was read
--     short-record           "Any other bad record gets 16 and the next is read": one of length 0 or 1
--     answers-fit            with 44 bytes a slot, 2,048 and 6 more, the ANSWER of every event of a run fits
--     turn-answers           then a record that is taken gets its outputs and its ANSWER
--     one-turn, in_pieces    the laws of Pieces, with that room: a turn, and the turns at the front of a piece
--     any-pieces             however the input comes in pieces, the turns write `ledger_of` of the whole
-- Assumes nothing.
use Prim.Native.Nat.{ℕ, ◌+◌, ◌-◌, ◌≤◌, ◌<◌}
use mathlib.Core.Bool.{Bool, true, false, cond}
use mathlib.Core.List.{List, [], ◌∷◌, ◌++◌, flatten}
use mathlib.Core.Path.{◌≡◌, refl, sym, ◌∙◌}
use native.Mathlib.Omega.{arith}
use borrow.Author.Tests.{ltb-true, lt-ltb}
use lib.Dec.{ltb}
use lib.ListN.{length, drop, length-take}
use lib.Seq.{drop-append_seam}
use Rattle.std.specs.Prelude.{None}
use Rattle.certificates.specs.Num.{num_at}
use Rattle.certificates.specs.Error.{bad_record}
use Rattle.trace.specs.Part.{between}
use Rattle.trace.specs.Form.{form_of}
use Rattle.trace.specs.Record.{record_max, split_of, framed}
use Rattle.trace.specs.declared.record.Front.{Front}
use Rattle.trace.specs.declared.record.Front.TheVariants.{End, Cut, Small, Record}
use Rattle.trace.proofs.FrontLaws.{Whole, front-bounds}
use Rattle.outputs.specs.Records.{answer, answer_size, enc_all}
use Rattle.replica.specs.Started.{room_for}
use Rattle.replica.specs.Step.{World, refused_in, stepped}
use Rattle.replica.proofs.Theorems.{bad-record}
use Rattle.replica.proofs.Sizes.{step-size, step-slots}
use Rattle.turns.specs.Turn.{answers_in, Turning, is_too_long, turned, turned_by, Left, laid_in}
use Rattle.turns.specs.declared.turn.Met.TheVariants.{Answered}
use Rattle.turns.specs.Ledger.{event_at, ledger_of}
use Rattle.turns.specs.Pieces.{played_of, fed_of}
use Rattle.turns.proofs.Fronts.{taken_by}
use Rattle.turns.proofs.Pieces.{Answers, turned-event, event-answers, turn-then, trace-in-pieces, fed-all}

-- two outcomes that the contract permits are one
pub turn-unique : {a b : Left} (w : World) (s : List ℕ) (at have : ℕ) (out : List ℕ) → a ≡ laid_in (turned w (length out) s) at have out
    → b ≡ laid_in (turned w (length out) s) at have out → a ≡ b
turn-unique w s at have out p q = p ∙ sym q

-- the bytes past the written count are those that were there
pub past-unchanged : (x : Turning) (at have : ℕ) (out : List ℕ) → drop (laid_in x at have out).written (laid_in x at have out).out ≡ drop (laid_in x at have out).written out
unfolding laid_in
past-unchanged x at have out = drop-append_seam (enc_all x.outs) (drop (length (enc_all x.outs)) out)

-- ---- what is taken

cut-taken : (long : Bool) (a b : Turning) (n : ℕ) → a.taken ≤ n → b.taken ≤ n → (cond long a b).taken ≤ n
cut-taken true a b n p q = p
cut-taken false a b n p q = q

taken-by : (w : World) (room : ℕ) (s : List ℕ) (f : Front) → f ≡ split_of s → (turned_by f w room s).taken ≤ length s
taken-by w room s End p = omega arith
taken-by w room s Cut p = cut-taken (is_too_long s) _ _ (length s) (omega arith) (omega arith)
taken-by w room s (Small end) p = (front-bounds s (Small end) p).1
taken-by w room s (Record kind end) p = (front-bounds s (Record kind end) p).1

pub taken-within : (w : World) (room : ℕ) (s : List ℕ) → (turned w room s).taken ≤ length s
unfolding turned
taken-within w room s = taken-by w room s (split_of s) refl

-- .. so that what was read and not taken stays a part of the buffer
pub at-within : (w : World) (room at have : ℕ) (t : List ℕ) → at ≤ have → at + (turned w room (between at have t)).taken ≤ have
at-within w room at have t h =
    let n : length (between at have t) ≤ have - at = rw length-take (omega arith) in
    omega (arith, taken-within w room (between at have t))

-- ---- a record too small for a kind

abbrev Short : Front → Type 0
Short End = Unit
Short Cut = Unit
Short (Small end) = end < 4
Short (Record kind end) = Unit

short-by : (a b c d e : Bool) (k n : ℕ) → e ≡ ltb n 2 → Short (cond a End (cond b Cut (cond c Cut (cond d Cut (cond e (Small (n + 2)) (Record k (n + 2)))))))
short-by true b c d e k n p = tt
short-by false true c d e k n p = tt
short-by false false true d e k n p = tt
short-by false false false true e k n p = tt
short-by false false false false true k n p = let h : n < 2 = ltb-true n 2 (sym p) in omega arith
short-by false false false false false k n p = tt

short-end : (s : List ℕ) {end : ℕ} → Small end ≡ split_of s → end < 4
unfolding split_of framed
short-end s {end} p =
    let n : ℕ = num_at 2 s 0 in
    let h : Short (split_of s) = short-by (ltb (length s) 1) (ltb (length s) 2) (ltb record_max n) (ltb (length s) (n + 2)) (ltb n 2) (num_at 2 s 2) n refl in
    rw (← p) at h

short-form : (r : List ℕ) → length r < 2 → form_of r ≡ None
unfolding form_of
short-form r h = rw (lt-ltb _ _ h)

pub short-record : (w : World) (room : ℕ) (s : List ℕ) {end : ℕ} → Small end ≡ split_of s
    → turned w room s ≡ record { met = Answered; world = w; taken = end; outs = answers_in room [] bad_record }
unfolding turned
short-record w room s {end} p =
    let l : length (between 2 end s) < 2 = rw length-take (omega (arith, short-end s p)) in
    let e : stepped w room (between 2 end s) ≡ refused_in bad_record w = bad-record w room (between 2 end s) (short-form (between 2 end s) l) in
    rw (← p, e)

-- ---- room for every ANSWER

-- an output that has room for what an event over this table writes, and for its ANSWER
abbrev pub Roomy : ℕ → World → Type 0
Roomy room w = room_for (length w.table) + answer_size ≤ room

pub answers-fit : (room : ℕ) → Answers room (Roomy room)
answers-fit room =
    record {
      fits = λ (w : World) (r : List ℕ) (g : Roomy room w). omega (arith, step-size w room r);
      stays = λ (w : World) (r : List ℕ) (g : Roomy room w). rw (step-slots w room r) g;
    }

module _ (room : ℕ) (w : World) (g : Roomy room w) where
  pub turn-answers : (s : List ℕ) (f : Front) → f ≡ split_of s → Whole f
      → turned w room s
      ≡ record { met = Answered; world = (event_at w room s).world; taken = taken_by f; outs = (event_at w room s).outs ++ answer (event_at w room s).answer ∷ [] }
  turn-answers s f p h = turned-event w room s f p h ∙ rw (event-answers (answers-fit room) w s g)

  -- one turn that takes a record, as the step of a loop over a buffer s with q still to come
  pub one-turn : (s q : List ℕ) → (turned w room s).met ≡ Answered
      → ledger_of w room (s ++ q) ≡ (turned w room s).outs ++ ledger_of (turned w room s).world room (drop (turned w room s).taken s ++ q)
  one-turn s q m = turn-then (answers-fit room) w s q g m

  pub in_pieces : (p q : List ℕ)
      → ledger_of w room (p ++ q)
      ≡ (played_of w room p).outs ++ cond (played_of w room p).over [] (ledger_of (played_of w room p).world room ((played_of w room p).rest ++ q))
  in_pieces p q = trace-in-pieces (answers-fit room) w p q g

  pub any-pieces : (ps : List (List ℕ)) → fed_of w room [] ps ≡ ledger_of w room (flatten ps)
  any-pieces ps = fed-all (answers-fit room) ps w g
