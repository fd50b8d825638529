-- A trace answered record by record into a buffer, as far as there is a whole record and room.
--     end_of a                     where the next record starts; 0 where there is no answer
--     with_first a ns              the number of an answer in front of those of the answers after it; none where there is no answer
--     numbers_of n s               the numbers of the whole records at the front of s, of n at most
--     used_of n s                  the bytes of these records
--     room_in o                    how many ANSWERs a buffer has room for
--     RanIs trace before after r   the numbers of as many records as there is room for were written, and the bytes of these records taken
use Rattle.std.specs.Prelude.{ℕ, zero, suc, ◌+◌, ◌/◌, ◌≡◌, List, [], ◌∷◌, map, length, drop, Option, Some, None}
use Rattle.outputs.specs.Put.{Wrote}
use Rattle.outputs.specs.Records.{answer, answer_size}
use Rattle.forms.specs.Numbers.{answer_of}
use Rattle.forms.specs.declared.Answered.{Answered}
use Rattle.forms.specs.declared.Ran.{Ran}

abbrev pub end_of : Option Answered → ℕ
end_of None = 0
end_of (Some a) = a.end

abbrev pub with_first : Option Answered → List ℕ → List ℕ
with_first None ns = []
with_first (Some a) ns = a.number ∷ ns

unfoldable pub numbers_of : ℕ → List ℕ → List ℕ
numbers_of zero s = []
numbers_of (suc n) s = with_first (answer_of s) (numbers_of n (drop (end_of (answer_of s)) s))

unfoldable pub used_of : ℕ → List ℕ → ℕ
used_of zero s = 0
used_of (suc n) s = end_of (answer_of s) + used_of n (drop (end_of (answer_of s)) s)

abbrev pub room_in : List ℕ → ℕ
room_in o = length o / answer_size

pub record RanIs (trace before after : List ℕ) (r : Ran) : Type 0 where
  pub wrote : Wrote (length before) (map answer (numbers_of (room_in before) trace)) before 0 after r.written
  pub taken : r.used ≡ used_of (room_in before) trace
