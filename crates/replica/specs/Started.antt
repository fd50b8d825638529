-- 01, Members: which records that are handed in count as started; and the room that an event needs.
--     members_of seat stakes          the committee: the first `count` stakes
--     sized, shaped                   memory of the sizes that a replica has; count and own place within the limits
--     started_of seat stakes v t      the total stake, where the record counts as started
--     slots_max, room_besides            the most slots of a table; the bytes of output besides COMMITs
--     room_for slots, roomy slots room   a table of 1 to 1,024 slots, and room for the output
use Rattle.std.specs.Prelude.{ℕ, ◌+◌, ◌*◌, Bool, false, cond, List, eqb, ltb, leb, length, take, Option, None, Some}
use Rattle.certificates.specs.Config.{members_max, setup_of}
use Rattle.certificates.specs.declared.numbers.Stake.{Stake}
use Rattle.outputs.specs.Records.{commit_size}
use Rattle.aggregator.specs.Tally.{vote_width, timeout_width}
use Rattle.aggregator.specs.Tallies.{vote_tallies, timeout_tallies, votes_length, timeouts_length, heavy}
use Rattle.replica.specs.declared.started.Seat.{Seat}

-- the members' stakes; those at and past the count are ignored
abbrev pub members_of : Seat → List ℕ → List ℕ
members_of seat stakes = take seat.count stakes

-- memory of the sizes that a replica has
unfoldable pub sized : ℕ → ℕ → ℕ → Bool
sized stakes votes timeouts = cond (eqb stakes members_max) (cond (eqb votes votes_length) (eqb timeouts timeouts_length) false) false

-- that, and the count and the own place within the limits
unfoldable pub shaped : Seat → ℕ → ℕ → ℕ → Bool
shaped seat stakes votes timeouts =
    cond (leb seat.count members_max) (cond (ltb seat.own.0 seat.count) (sized stakes votes timeouts) false) false

-- no used tally is heavier than the total
abbrev pub light_in : List ℕ → List ℕ → Option Stake → Option Stake
light_in votes timeouts None = None
light_in votes timeouts (Some t) =
    cond (heavy vote_width vote_tallies votes t.0) None (cond (heavy timeout_width timeout_tallies timeouts t.0) None (Some t))

-- "A replica record handed in with count, stakes or own place outside these limits, or a tally weight above the total, counts as not started."
unfoldable pub started_of : Seat → List ℕ → List ℕ → List ℕ → Option Stake
started_of seat stakes votes timeouts =
    cond (shaped seat (length stakes) (length votes) (length timeouts)) (light_in votes timeouts (setup_of (members_of seat stakes))) None

-- "room: table not 1 to 1,024 slots, or output below 44*slots+2,048 bytes"
abbrev pub slots_max : ℕ
slots_max = 1024

abbrev pub room_besides : ℕ
room_besides = 2048

abbrev pub room_for : ℕ → ℕ
room_for slots = commit_size * slots + room_besides

unfoldable pub roomy : ℕ → ℕ → Bool
roomy slots room = cond (eqb slots 0) false (cond (ltb slots_max slots) false (leb (room_for slots) room))
