-- A trace that is read in pieces.
--     turned-event, turned-waits, turned-over     a turn by what stands at the front
--     trace-in-pieces      THE LAW: the records of a trace p ++ q are those of the turns at the front of p, and then those of what is left of p and of q, from the world that the turns leave
--     turn-then            the same of one turn: its records, and then those of what follows what it took
--     fed-ledger, fed-all  however the input comes in pieces, what is written is `ledger_of` of the whole
-- What they ask of a replica, `Answers`, is that the output has room for each event's records and its ANSWER, and goes on to have it.
-- Assumes nothing.
use Prim.Native.Nat.{ℕ, zero, suc, ◌+◌, ◌≤◌, ◌<◌}
use mathlib.Core.Bool.{Bool, true, false, cond, true≢false}
use mathlib.Core.List.{List, [], ◌∷◌, ◌++◌, flatten, append_assoc, append-nil}
use mathlib.Core.Path.{◌≡◌, refl, sym, ap, ◌∙◌}
use native.Mathlib.Omega.{arith}
use borrow.Author.Tests.{ltb-true, le-leb, ne_eqb}
use lib.Dec.{ltb, eqb}
use lib.ListN.{length, drop, length-append}
use Rattle.certificates.specs.Num.{num_at}
use Rattle.certificates.specs.Error.{bad_record}
use Rattle.trace.specs.Record.{record_max, split_of, framed, record_of, rest_of}
use Rattle.trace.specs.declared.record.Front.{Front}
use Rattle.trace.specs.declared.record.Front.TheVariants.{End, Cut, Small, Record}
use Rattle.trace.proofs.Parts.{by_order, num-past, num-append}
use Rattle.trace.proofs.Fronts.{at-end, too_long_lem}
use Rattle.trace.proofs.FrontLaws.{Whole, front-append, record-append, rest-append}
use Rattle.outputs.specs.Records.{Rec, answer, answer_size, enc_all}
use Rattle.outputs.proofs.Wrote.{all_none}
use Rattle.replica.specs.Step.{World, stepped}
use Rattle.turns.specs.Turn.{is_too_long, answers_in, Turning, waiting, turned}
use Rattle.turns.specs.declared.turn.Met.{Met}
use Rattle.turns.specs.declared.turn.Met.TheVariants.{Answered, More, TooLong}
use Rattle.turns.specs.Ledger.{event_at, ledger_of}
use Rattle.turns.specs.Pieces.{Played, played_in, played_of, fed_of}
use Rattle.turns.proofs.Fronts.{taken_by}
use Rattle.turns.proofs.LedgerLaws.{rest-within, ledger-end, ledger-cut, ledger-event}

-- ---- a turn, by what stands at the front

-- what follows the record at the front
rest-is : (f : Front) (s : List ℕ) → Whole f → drop (taken_by f) s ≡ rest_of f s
rest-is End s h = absurd h
rest-is Cut s h = absurd h
rest-is (Small end) s h = refl
rest-is (Record kind end) s h = refl

module _ (w : World) (room : ℕ) (s : List ℕ) where
  abbrev taken : Front → Turning
  taken f =
      record {
        met = Answered;
        world = (event_at w room s).world;
        taken = taken_by f;
        outs = (event_at w room s).outs ++ answers_in room (event_at w room s).outs (event_at w room s).answer;
      }

  pub turned-event : (f : Front) → f ≡ split_of s → Whole f → turned w room s ≡ taken f
  unfolding turned event_at
  turned-event End p h = absurd h
  turned-event Cut p h = absurd h
  turned-event (Small end) p h = rw (← p)
  turned-event (Record kind end) p h = rw (← p)

  pub turned-end : End ≡ split_of s → turned w room s ≡ waiting w
  unfolding turned
  turned-end p = rw (← p)

  pub turned-waits : Cut ≡ split_of s → is_too_long s ≡ false → turned w room s ≡ waiting w
  unfolding turned
  turned-waits p h = rw (← p, h)

  pub turned-over : Cut ≡ split_of s → is_too_long s ≡ true → turned w room s ≡ record { met = TooLong; world = w; taken = 0; outs = answers_in room [] bad_record }
  unfolding turned
  turned-over p h = rw (← p, h)

-- a length above the most stays one, whatever follows
pub too-long-append : (s t : List ℕ) → is_too_long s ≡ true → Cut ≡ split_of (s ++ t)
too-long-append s t e =
    let h : record_max < num_at 2 s 0 = ltb-true _ _ e in
    by_order {C = Cut ≡ split_of (s ++ t)} 2 (length s)
    (λ l.
    let n : length (s ++ t) ≡ length s + length t = length-append s t in
    too_long_lem (s ++ t) {n = num_at 2 s 0} (sym (num-append 2 s t 0 (omega arith))) (omega arith) h)
    (λ l. let z : num_at 2 s 0 ≡ 0 = num-past 2 s 0 (omega arith) in absurd (omega arith))

-- a front that is the end has no bytes
abbrev tag : Front → ℕ
tag End = 0
tag Cut = 1
tag (Small end) = 1
tag (Record kind end) = 1

not_end : (b c d e : Bool) (k n : ℕ) → tag (cond b Cut (cond c Cut (cond d Cut (cond e (Small n) (Record k n))))) ≡ 1
not_end true c d e k n = refl
not_end false true d e k n = refl
not_end false false true e k n = refl
not_end false false false true k n = refl
not_end false false false false k n = refl

end_by : (s : List ℕ) (z : Bool) → ltb (length s) 1 ≡ z → End ≡ split_of s → length s < 1
unfolding split_of framed
end_by s true e p = ltb-true _ _ e
end_by s false e p =
    let n : ℕ = num_at 2 s 0 in
    let z : ◌≡◌ {A = ℕ} 0 1 =
    ap tag (rw e at p) ∙ not_end (ltb (length s) 2) (ltb record_max n) (ltb (length s) (n + 2)) (ltb n 2) (num_at 2 s 2) (n + 2) in
    absurd (omega arith)

end_empty : (s : List ℕ) → End ≡ split_of s → length s < 1
end_empty s p = end_by s (ltb (length s) 1) refl p

-- ---- the output has room for what each event writes and its ANSWER, now and later

pub record Answers (room : ℕ) (Good : World → Type 0) : Type 0 where
  pub fits : (w : World) (r : List ℕ) → Good w → length (enc_all (stepped w room r).outs) + answer_size ≤ room
  pub stays : (w : World) (r : List ℕ) → Good w → Good (stepped w room r).world

module _ {room : ℕ} {Good : World → Type 0} (a : Answers room Good) where
  room-enough : (w : World) → Good w → answer_size ≤ room
  room-enough w g = omega (arith, a.fits w [] g)

  answers-all : (w : World) (r : List ℕ) → Good w → answers_in room (stepped w room r).outs (stepped w room r).answer ≡ answer (stepped w room r).answer ∷ []
  answers-all w r g = rw (le-leb _ _ (a.fits w r g))

  answers-none : (w : World) → Good w → answers_in room [] bad_record ≡ answer bad_record ∷ []
  answers-none w g = let h : length (enc_all []) + answer_size ≤ room = rw all_none (room-enough w g) in rw (le-leb _ _ h)

  -- ---- turns at the front of s, and then q

  abbrev InPieces : World → List ℕ → List ℕ → Played → Type 0
  InPieces w s q y = ledger_of w room (s ++ q) ≡ y.outs ++ cond y.over [] (ledger_of y.world room (y.rest ++ q))

  event-same : (w : World) (s q : List ℕ) (f : Front) → f ≡ split_of s → Whole f → event_at w room (s ++ q) ≡ event_at w room s
  unfolding event_at
  event-same w s q f p h = rw (← front-append s q f h p, ← p, record-append s q f h p)

  pub event-answers : (w : World) (s : List ℕ) → Good w → answers_in room (event_at w room s).outs (event_at w room s).answer ≡ answer (event_at w room s).answer ∷ []
  unfolding event_at
  event-answers w s g = answers-all w (record_of (split_of s) s) g

  event-stays : (w : World) (s : List ℕ) → Good w → Good (event_at w room s).world
  unfolding event_at
  event-stays w s g = a.stays w (record_of (split_of s) s) g

  -- an event, and then what follows
  event-ledger : (w : World) (s q : List ℕ) (f : Front) → f ≡ split_of s → Whole f
      → ledger_of w room (s ++ q) ≡ (event_at w room s).outs ++ answer (event_at w room s).answer ∷ ledger_of (event_at w room s).world room (rest_of f s ++ q)
  event-ledger w s q f p h = ledger-event room w (s ++ q) f (front-append s q f h p) h ∙ rw (event-same w s q f p h, rest-append s q f h p)

  on-event : (n : ℕ) (w : World) (s q : List ℕ) (f : Front) → f ≡ split_of s → Whole f → Good w
      → InPieces (event_at w room s).world (rest_of f s) q (played_in n (event_at w room s).world room (rest_of f s)) → InPieces w s q (played_in (suc n) w room s)
  unfolding played_in
  on-event n w s q f p h g ih =
      rw (turned-event w room s f p h, rest-is f s h, event-answers w s g) (event-ledger w s q f p h ∙ rw (ih, append_assoc, append_assoc))

  waits-on : (n : ℕ) (w : World) (s q : List ℕ) → turned w room s ≡ waiting w → InPieces w s q (played_in (suc n) w room s)
  unfolding played_in
  waits-on n w s q e = rw e

  over-on : (n : ℕ) (w : World) (s q : List ℕ) → Good w → Cut ≡ split_of s → is_too_long s ≡ true → InPieces w s q (played_in (suc n) w room s)
  unfolding played_in
  over-on n w s q g p e =
      rw (turned-over w room s p e, answers-none w g) (ledger-cut room w (s ++ q) (too-long-append s q e))

  on-cut : (n : ℕ) (w : World) (s q : List ℕ) → Good w → Cut ≡ split_of s → (long : Bool) → is_too_long s ≡ long → InPieces w s q (played_in (suc n) w room s)
  on-cut n w s q g p true e = over-on n w s q g p e
  on-cut n w s q g p false e = waits-on n w s q (turned-waits w room s p e)

  by_front : (n : ℕ) (w : World) (s q : List ℕ) (f : Front) → f ≡ split_of s → Good w → length s ≤ suc n
      → ((w : World) (r : List ℕ) → Good w → length r ≤ n → InPieces w r q (played_in n w room r)) → InPieces w s q (played_in (suc n) w room s)
  by_front n w s q End p g h ih = waits-on n w s q (turned-end w room s p)
  by_front n w s q Cut p g h ih = on-cut n w s q g p (is_too_long s) refl
  by_front n w s q (Small end) p g h ih =
      on-event n w s q (Small end) p tt g (ih (event_at w room s).world (drop end s) (event-stays w s g) (rest-within s n (Small end) p tt h))
  by_front n w s q (Record kind end) p g h ih =
      on-event n w s q (Record kind end) p tt g (ih (event_at w room s).world (drop end s) (event-stays w s g) (rest-within s n (Record kind end) p tt h))

  played-in : (n : ℕ) (q : List ℕ) (w : World) (s : List ℕ) → Good w → length s ≤ n → InPieces w s q (played_in n w room s)
  unfolding played_in
  played-in zero q w s g h = refl
  played-in (suc n) q w s g h = by_front n w s q (split_of s) refl g h (played-in n q)

  pub trace-in-pieces : (w : World) (p q : List ℕ) → Good w
      → ledger_of w room (p ++ q)
      ≡ (played_of w room p).outs ++ cond (played_of w room p).over [] (ledger_of (played_of w room p).world room ((played_of w room p).rest ++ q))
  unfolding played_of
  trace-in-pieces w p q g = played-in (length p) q w p g (omega arith)

  -- ---- one turn, as the step of a loop

  abbrev TurnThen : World → List ℕ → List ℕ → Type 0
  TurnThen w s q = ledger_of w room (s ++ q) ≡ (turned w room s).outs ++ ledger_of (turned w room s).world room (drop (turned w room s).taken s ++ q)

  then-event : (w : World) (s q : List ℕ) (f : Front) → f ≡ split_of s → Whole f → Good w → TurnThen w s q
  then-event w s q f p h g = rw (turned-event w room s f p h, rest-is f s h, event-answers w s g) (event-ledger w s q f p h ∙ rw append_assoc)

  not_taken : (w : World) (s : List ℕ) {t : Turning} → turned w room s ≡ t → (t.met ≡ Answered → ⊥) → (turned w room s).met ≡ Answered → ⊥
  not_taken w s e n m = n (sym (ap (λ (u : Turning). u.met) e) ∙ m)

  cut-not-taken : (w : World) (s : List ℕ) → Cut ≡ split_of s → (long : Bool) → is_too_long s ≡ long → (turned w room s).met ≡ Answered → ⊥
  cut-not-taken w s p true e = not_taken w s (turned-over w room s p e) (λ z. cc)
  cut-not-taken w s p false e = not_taken w s (turned-waits w room s p e) (λ z. cc)

  then_by : (w : World) (s q : List ℕ) (f : Front) → f ≡ split_of s → Good w → (turned w room s).met ≡ Answered → TurnThen w s q
  then_by w s q End p g m = absurd (not_taken w s (turned-end w room s p) (λ z. cc) m)
  then_by w s q Cut p g m = absurd (cut-not-taken w s p (is_too_long s) refl m)
  then_by w s q (Small end) p g m = then-event w s q (Small end) p tt g
  then_by w s q (Record kind end) p g m = then-event w s q (Record kind end) p tt g

  pub turn-then : (w : World) (s q : List ℕ) → Good w → (turned w room s).met ≡ Answered → TurnThen w s q
  turn-then w s q g m = then_by w s q (split_of s) refl g m

  -- ---- where the turns end: more is waited for, or the run is over

  record Stops (y : Played) : Type 0 where
    good : Good y.world
    waits : y.over ≡ false → turned y.world room y.rest ≡ waiting y.world

  stops-event : (n : ℕ) (w : World) (s : List ℕ) (f : Front) → f ≡ split_of s → Whole f
      → Stops (played_in n (event_at w room s).world room (rest_of f s)) → Stops (played_in (suc n) w room s)
  unfolding played_in
  stops-event n w s f p h ih = rw (turned-event w room s f p h, rest-is f s h) (record { good = ih.good; waits = ih.waits })

  stops-waiting : (n : ℕ) (w : World) (s : List ℕ) → Good w → turned w room s ≡ waiting w → Stops (played_in (suc n) w room s)
  unfolding played_in
  stops-waiting n w s g e = rw e (record { good = g; waits = λ _. e })

  stops-over : (n : ℕ) (w : World) (s : List ℕ) → Good w → Cut ≡ split_of s → is_too_long s ≡ true → Stops (played_in (suc n) w room s)
  unfolding played_in
  stops-over n w s g p e = rw (turned-over w room s p e) (record { good = g; waits = λ z. absurd (true≢false z) })

  stops-cut : (n : ℕ) (w : World) (s : List ℕ) → Good w → Cut ≡ split_of s → (long : Bool) → is_too_long s ≡ long → Stops (played_in (suc n) w room s)
  stops-cut n w s g p true e = stops-over n w s g p e
  stops-cut n w s g p false e = stops-waiting n w s g (turned-waits w room s p e)

  stops-by : (n : ℕ) (w : World) (s : List ℕ) (f : Front) → f ≡ split_of s → Good w → length s ≤ suc n
      → ((w : World) (r : List ℕ) → Good w → length r ≤ n → Stops (played_in n w room r)) → Stops (played_in (suc n) w room s)
  stops-by n w s End p g h ih = stops-waiting n w s g (turned-end w room s p)
  stops-by n w s Cut p g h ih = stops-cut n w s g p (is_too_long s) refl
  stops-by n w s (Small end) p g h ih =
      stops-event n w s (Small end) p tt (ih (event_at w room s).world (drop end s) (event-stays w s g) (rest-within s n (Small end) p tt h))
  stops-by n w s (Record kind end) p g h ih =
      stops-event n w s (Record kind end) p tt (ih (event_at w room s).world (drop end s) (event-stays w s g) (rest-within s n (Record kind end) p tt h))

  played-stops : (n : ℕ) (w : World) (s : List ℕ) → Good w → length s ≤ n → Stops (played_in n w room s)
  unfolding played_in
  played-stops zero w s g h = record { good = g; waits = λ _. turned-end w room s (at-end s (omega arith)) }
  played-stops (suc n) w s g h = stops-by n w s (split_of s) refl g h (played-stops n)

  stopped : (w : World) (s : List ℕ) → Good w → Stops (played_of w room s)
  unfolding played_of
  stopped w s g = played-stops (length s) w s g (omega arith)

  -- ---- the end of the input

  -- what is waited for and does not come is a record cut by the end
  cut-by-end : (w : World) (x : ℕ) (s : List ℕ) (f : Front) → f ≡ split_of (x ∷ s) → turned w room (x ∷ s) ≡ waiting w → ledger_of w room (x ∷ s) ≡ answer bad_record ∷ []
  cut-by-end w x s End p e = let h = end_empty (x ∷ s) p in absurd (omega arith)
  cut-by-end w x s Cut p e = ledger-cut room w (x ∷ s) p
  cut-by-end w x s (Small end) p e =
      let z : ◌≡◌ {A = Met} Answered More = ap (λ (t : Turning). t.met) (sym (turned-event w room (x ∷ s) (Small end) p tt) ∙ e) in cc
  cut-by-end w x s (Record kind end) p e =
      let z : ◌≡◌ {A = Met} Answered More = ap (λ (t : Turning). t.met) (sym (turned-event w room (x ∷ s) (Record kind end) p tt) ∙ e) in cc

  ends : (w : World) (s : List ℕ) → turned w room s ≡ waiting w → cond (eqb (length s) 0) [] (answer bad_record ∷ []) ≡ ledger_of w room s
  ends w [] e = sym (ledger-end room w [] (at-end [] (omega arith)))
  ends w (x ∷ s) e =
      let h : length (x ∷ s) ≡ 0 → ⊥ = λ z. absurd (omega arith) in
      rw (ne_eqb (length (x ∷ s)) 0 h) (sym (cut-by-end w x s (split_of (x ∷ s)) refl e))

  -- ---- any pieces

  abbrev pub Fed : List (List ℕ) → Type 0
  Fed ps = (w : World) (s : List ℕ) → Good w → turned w room s ≡ waiting w → fed_of w room s ps ≡ ledger_of w room (s ++ flatten ps)

  go_on : (ps : List (List ℕ)) (y : Played) → Stops y → (over : Bool) → y.over ≡ over → Fed ps
      → cond over [] (fed_of y.world room y.rest ps) ≡ cond over [] (ledger_of y.world room (y.rest ++ flatten ps))
  go_on ps y k true e ih = refl
  go_on ps y k false e ih = ih y.world y.rest k.good (k.waits e)

  pub fed-ledger : (ps : List (List ℕ)) → Fed ps
  unfolding fed_of flatten
  fed-ledger [] w s g e = rw append-nil (ends w s e)
  fed-ledger (p ∷ ps) w s g e =
      let y : Played = played_of w room (s ++ p) in
      ap (λ (rs : List Rec). y.outs ++ rs) (go_on ps y (stopped w (s ++ p) g) y.over refl (fed-ledger ps))
      ∙ sym (trace-in-pieces w (s ++ p) (flatten ps) g)
      ∙ ap (ledger_of w room) (append_assoc s p (flatten ps))

  -- from nothing read
  pub fed-all : (ps : List (List ℕ)) (w : World) → Good w → fed_of w room [] ps ≡ ledger_of w room (flatten ps)
  fed-all ps w g = fed-ledger ps w [] g (turned-end w room [] (at-end [] (omega arith)))
