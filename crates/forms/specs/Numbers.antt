-- The number of a record by its form and its limits alone. 01, Numbers the host sees: "Order: 16, 34 or 33, 18, 17, 32, 20, 19", of which
-- 16, 32, 20 and 19 need no state.
--     by_form r k      16 for a record without form, and else the number that it gets by its limits
--     number_of r      the number of a record, its kind and body
--     by_front f s     the answer to the front f of a trace s
--     answer_of s      the answer to the front of a trace, and where the next record starts; None where there is no record or it is cut
--     too_long s       whether the length at the front is above the most
use Rattle.std.specs.Prelude.{ℕ, Bool, List, ltb, Option, Some, None}
use Rattle.certificates.specs.Num.{num_at}
use Rattle.certificates.specs.Error.{bad_record}
use Rattle.trace.specs.Record.{record_max, split_of, record_of}
use Rattle.trace.specs.Form.{form_of}
use Rattle.trace.specs.Limits.{limit_of}
use Rattle.trace.specs.declared.record.Front.{Front}
use Rattle.trace.specs.declared.record.Front.TheVariants.{End, Cut, Small, Record}
use Rattle.trace.specs.declared.events.Kind.{Kind}
use Rattle.forms.specs.declared.Answered.{Answered}

-- "16 | bad record: unknown kind, wrong body length, verdict or flag out of range"
abbrev pub by_form : List ℕ → Option Kind → ℕ
by_form r None = bad_record
by_form r (Some k) = limit_of r k

unfoldable pub number_of : List ℕ → ℕ
number_of r = by_form r (form_of r)

-- "A length above 4,096 or a record cut by the end gets ANSWER 16 and ends the run. Any other bad record gets 16 and the next is read."
abbrev pub by_front : Front → List ℕ → Option Answered
by_front End s = None
by_front Cut s = None
by_front (Small end) s = Some (record { number = bad_record; end = end })
by_front (Record kind end) s = Some (record { number = number_of (record_of (Record kind end) s); end = end })

unfoldable pub answer_of : List ℕ → Option Answered
answer_of s = by_front (split_of s) s

abbrev pub too_long : List ℕ → Bool
too_long s = ltb record_max (num_at 2 s 0)
