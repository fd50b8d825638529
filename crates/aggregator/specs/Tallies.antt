-- Tables of tallies: 01, Events, and "Numbers the host sees". A table is a list of n tallies, each w numbers wide.
--     vote_tallies, timeout_tallies       how many tallies there are
--     votes_length, timeouts_length       how many numbers that makes
--     total_max                           the most that the stakes of all members may be
--     find_row test w n v                 the lowest tally that passes the test
--     find_free w n v                     the lowest that is not in use
--     find_heavy w n v total, heavy w n v total     the lowest in use that is heavier than the total; whether there is one
--     any_heavy votes timeouts total      whether there is one in the table of votes or in that of timeouts
--     Light w n v total                   none in use is heavier than the total
--     joined w n v                        every bit that the weight of some of the n tallies has, in use or not
--     dropped w n v round                 the table once the round is `round`
--     place_for test w n v                the row of the tally that passes the test, or of a new one; None if all are held (first_of)
--     table_for test new w n v            the table with that tally in it, `new` where there was none (opened)
--     TallyFor test new w n v r v'        r is the row, and v' the table
--     Countable w n v p stake             what is asked of a table, a place and its stake before the author is counted
--     added test new w n v p stake need   what is answered once an author is counted in that tally (answer_at)
--     after test new mark w n v p stake need      the table then; a refusal leaves it as it was (table_at)
--     vote_added, votes_after             the two for a vote
--     timeout_added, timeouts_after       the two for a timeout
--     highs_at v i                        the high rounds of the timeout tally in row i, by place
--     HighsAs v i h                       h is those, one for each place
use Rattle.aggregator.specs.declared.tallies.AddError.TheVariants.{NoRoom}
use Rattle.std.specs.Prelude.{ℕ, zero, suc, ◌*◌, ◌≤◌, ◌<◌, Bool, cond, ◌||◌, Option, Some, None, is_some, List, ◌≡◌, length, drop, Err}
use Rattle.std.specs.Int.Bits.{bit_or}
use Rattle.certificates.specs.Config as limits
use Rattle.certificates.specs.declared.numbers.Hash.{Hash}
use Rattle.aggregator.specs.Rows.{row, with_row, lowest, map_rows}
use Rattle.aggregator.specs.Tally.{fields, places, vote_width, timeout_width, used_of, weight_of, names_of, is_free, is_vote, of_round, is_heavy, kept, new_vote, new_timeout, has_name, with_high, no_high, with_author, answer_of, Added}

-- "all 32 vote or 16 timeout tallies"
abbrev pub vote_tallies : ℕ
vote_tallies = 32

abbrev pub timeout_tallies : ℕ
timeout_tallies = 16

abbrev pub votes_length : ℕ
votes_length = vote_tallies * vote_width

abbrev pub timeouts_length : ℕ
timeouts_length = timeout_tallies * timeout_width

-- "total stake at most 2^31-1"
abbrev pub total_max : ℕ
total_max = limits.total_max

-- "only used ones are looked up", "lookups the lowest match"
unfoldable pub find_row : (List ℕ → Bool) → ℕ → ℕ → List ℕ → Option ℕ
find_row test w n v = lowest test w v n 0

unfoldable pub find_free : ℕ → ℕ → List ℕ → Option ℕ
find_free w n v = find_row is_free w n v

unfoldable pub find_heavy : ℕ → ℕ → List ℕ → ℕ → Option ℕ
find_heavy w n v total = find_row (is_heavy total) w n v

unfoldable pub heavy : ℕ → ℕ → List ℕ → ℕ → Bool
heavy w n v total = is_some (find_heavy w n v total)

unfoldable pub any_heavy : List ℕ → List ℕ → ℕ → Bool
any_heavy votes timeouts total = heavy vote_width vote_tallies votes total || heavy timeout_width timeout_tallies timeouts total

-- "a tally weight above the total, counts as not started"
pub record Light (w n : ℕ) (v : List ℕ) (total : ℕ) : Type 0 where
  pub weight : (i : ℕ) → i < n → (used_of (row w v i) ≡ 0 → ⊥) → weight_of (row w v i) ≤ total

-- no weight is above it, so where it is within the total all are
unfoldable pub joined : ℕ → ℕ → List ℕ → ℕ
joined w zero v = 0
joined w (suc n) v = bit_or (joined w n v) (weight_of (row w v n))

-- Advance: "tallies below it are dropped and their room is used again"
unfoldable pub dropped : ℕ → ℕ → List ℕ → ℕ → List ℕ
dropped w n v round = map_rows (kept round) w n v

-- "New blocks and tallies take the lowest free place, lookups the lowest match"
abbrev pub first_of : Option ℕ → Option ℕ → Option ℕ
first_of (Some i) f = Some i
first_of None f = f

unfoldable pub place_for : (List ℕ → Bool) → ℕ → ℕ → List ℕ → Option ℕ
place_for test w n v = first_of (find_row test w n v) (find_free w n v)

abbrev pub opened : List ℕ → ℕ → List ℕ → Option ℕ → Option ℕ → List ℕ
opened new w v (Some i) f = v
opened new w v None (Some i) = with_row w v i new
opened new w v None None = v

unfoldable pub table_for : (List ℕ → Bool) → List ℕ → ℕ → ℕ → List ℕ → List ℕ
table_for test new w n v = opened new w v (find_row test w n v) (find_free w n v)

pub record TallyFor (test : List ℕ → Bool) (new : List ℕ) (w n : ℕ) (v : List ℕ) (r : Option ℕ) (v' : List ℕ) : Type 0 where
  pub place : r ≡ place_for test w n v
  pub table : v' ≡ table_for test new w n v
  pub below : (i : ℕ) → r ≡ Some i → i < n

-- so that no sum of a weight and a stake is too large
pub record Countable (w n : ℕ) (v : List ℕ) (p stake : ℕ) : Type 0 where
  pub long : length v ≡ n * w
  pub member : p < places
  pub light : Light w n v total_max
  pub part : stake ≤ total_max

-- 29: "new tally, all 32 vote or 16 timeout tallies held"; else what the tally in row i of t answers
abbrev pub answer_at : ℕ → List ℕ → ℕ → ℕ → ℕ → Option ℕ → Added
answer_at w t p stake need None = Err NoRoom
answer_at w t p stake need (Some i) = answer_of i (row w t i) p stake need

unfoldable pub added : (List ℕ → Bool) → List ℕ → ℕ → ℕ → List ℕ → ℕ → ℕ → ℕ → Added
added test new w n v p stake need = answer_at w (table_for test new w n v) p stake need (place_for test w n v)

-- the table v if it is refused, else t with the author counted in row i
abbrev pub table_at : (List ℕ → List ℕ) → ℕ → List ℕ → List ℕ → ℕ → ℕ → ℕ → Option ℕ → List ℕ
table_at mark w v t p stake need None = v
table_at mark w v t p stake need (Some i) = cond (has_name (names_of (row w t i)) p) v (with_row w t i (with_author mark (row w t i) p stake need))

unfoldable pub after : (List ℕ → Bool) → List ℕ → (List ℕ → List ℕ) → ℕ → ℕ → List ℕ → ℕ → ℕ → ℕ → List ℕ
after test new mark w n v p stake need = table_at mark w v (table_for test new w n v) p stake need (place_for test w n v)

unfoldable pub vote_added : List ℕ → ℕ → Hash → ℕ → ℕ → ℕ → Added
vote_added votes round hash p stake need = added (is_vote round hash) (new_vote round hash) vote_width vote_tallies votes p stake need

unfoldable pub votes_after : List ℕ → ℕ → Hash → ℕ → ℕ → ℕ → List ℕ
votes_after votes round hash p stake need = after (is_vote round hash) (new_vote round hash) no_high vote_width vote_tallies votes p stake need

unfoldable pub timeout_added : List ℕ → ℕ → ℕ → ℕ → ℕ → Added
timeout_added timeouts round p stake need = added (of_round round) (new_timeout round) timeout_width timeout_tallies timeouts p stake need

unfoldable pub timeouts_after : List ℕ → ℕ → ℕ → ℕ → ℕ → ℕ → List ℕ
timeouts_after timeouts round p stake need high =
    after (of_round round) (new_timeout round) (with_high p high) timeout_width timeout_tallies timeouts p stake need

unfoldable pub highs_at : List ℕ → ℕ → List ℕ
highs_at v i = drop fields (row timeout_width v i)

pub record HighsAs (v : List ℕ) (i : ℕ) (h : List ℕ) : Type 0 where
  pub is : h ≡ highs_at v i
  pub long : length h ≡ places
