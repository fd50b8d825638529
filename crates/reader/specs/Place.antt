-- A place in the trace bytes. 01, What changes shape: "a record reader that holds the trace bytes and its place in them".
--     front_at s at        what stands at a place: the front of the bytes from there on, and the end for a place past the end
--     behind f at n        the place behind a front at a place, in a trace of n bytes: its end where the run ends
--     next_at s at         the place behind what stands at a place
--     left_at s at         how many bytes are left from a place on: none past the end
--     front_in s at have   what stands at a place of the first have bytes, which are all where there are fewer; the end where at is not below have
use Rattle.std.specs.Prelude.{ℕ, ◌+◌, ◌-◌, List, length, drop}
use Rattle.trace.specs.Part.{between}
use Rattle.trace.specs.Record.{split_of}
use Rattle.trace.specs.declared.record.Front.{Front}
use Rattle.trace.specs.declared.record.Front.TheVariants.{End, Cut, Small, Record}

abbrev pub front_at : List ℕ → ℕ → Front
front_at s at = split_of (drop at s)

abbrev pub behind : Front → ℕ → ℕ → ℕ
behind End at n = n
behind Cut at n = n
behind (Small end) at n = at + end
behind (Record kind end) at n = at + end

abbrev pub next_at : List ℕ → ℕ → ℕ
next_at s at = behind (front_at s at) at (length s)

abbrev pub left_at : List ℕ → ℕ → ℕ
left_at s at = length s - at

abbrev pub front_in : List ℕ → ℕ → ℕ → Front
front_in s at have = split_of (between at have s)
