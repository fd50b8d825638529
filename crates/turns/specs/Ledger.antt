-- The output records of a whole trace: 01, The trace form.
--     event_at w room s         the event at the front of a trace s, of a replica in the world w whose output has `room` bytes
--     by_front f x rs           the records of a trace with f at its front, x the event there and rs the records of what follows
--     ledger_in n w room s      the records of a trace, of n events at most
--     ledger_of w room s        the records of a trace. An event takes 2 bytes or more, so that as many events as there are bytes are enough
use Rattle.std.specs.Prelude.{ℕ, zero, suc, List, [], ◌∷◌, ◌++◌, length}
use Rattle.certificates.specs.Error.{bad_record}
use Rattle.trace.specs.Record.{split_of, record_of, rest_of}
use Rattle.trace.specs.declared.record.Front.{Front}
use Rattle.trace.specs.declared.record.Front.TheVariants.{End, Cut, Small, Record}
use Rattle.outputs.specs.Records.{Rec, answer}
use Rattle.replica.specs.Step.{World, Result, stepped}

unfoldable pub event_at : World → ℕ → List ℕ → Result
event_at w room s = stepped w room (record_of (split_of s) s)

-- "ANSWER | number 2; added by the program after each event", "A length above 4,096 or a record cut by the end gets ANSWER 16 and ends the
-- run. Any other bad record gets 16 and the next is read."
abbrev pub by_front : Front → Result → List Rec → List Rec
by_front End x rs = []
by_front Cut x rs = answer bad_record ∷ []
by_front (Small end) x rs = x.outs ++ answer x.answer ∷ rs
by_front (Record kind end) x rs = x.outs ++ answer x.answer ∷ rs

unfoldable pub ledger_in : ℕ → World → ℕ → List ℕ → List Rec
ledger_in zero w room s = []
ledger_in (suc n) w room s = by_front (split_of s) (event_at w room s) (ledger_in n (event_at w room s).world room (rest_of (split_of s) s))

unfoldable pub ledger_of : World → ℕ → List ℕ → List Rec
ledger_of w room s = ledger_in (length s) w room s
