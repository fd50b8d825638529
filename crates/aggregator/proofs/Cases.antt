-- The definitions, computed over whole tables: four members of stake 1, whose quorum is 3, and a lone member, whose quorum is 1. No law cites this file.
-- Assumes nothing.
use Prim.Native.Nat.{ℕ}
use mathlib.Core.List.{List}
use mathlib.Core.Path.{◌≡◌, refl}
use lib.ListN.{get_or, replicate}
use Rattle.std.specs.Prelude.{None, Ok, Err}
use Rattle.aggregator.specs.declared.tallies.AddError.TheVariants.{NoRoom, Used}
use Rattle.certificates.specs.declared.numbers.Hash.{Hash}
use Rattle.aggregator.specs.Rows.{zeros}
use Rattle.aggregator.specs.Tally.{vote_width, is_vote, of_round, kept, new_vote, new_timeout, signers, with_high, no_high, with_author, answer_of, quorum_at}
use Rattle.aggregator.specs.Tallies.{vote_tallies, votes_length, timeouts_length, find_row, find_free, dropped, place_for, table_for, added, after, vote_added, votes_after, timeout_added, timeouts_after, highs_at}

abbrev hash : Hash
hash = record { a = 1; b = 2; c = 3; d = 4 }

-- it differs in the last word
abbrev other : Hash
other = record { a = 1; b = 2; c = 3; d = 5 }

abbrev one : List ℕ
one = votes_after (zeros votes_length) 5 hash 0 1 3

abbrev two : List ℕ
two = votes_after one 5 hash 1 1 3

abbrev three : List ℕ
three = votes_after two 5 hash 3 1 3

-- the third of three authors makes the quorum, in row 0, with the names of all three
pub quorum-of-three : vote_added two 5 hash 3 1 3 ≡ quorum_at 0 (signers 11)
unfolding vote_added votes_after added after place_for table_for find_row find_free is_vote new_vote no_high with_author answer_of
quorum-of-three = refl

-- its names stay, so no author is counted twice
pub names-stay : vote_added three 5 hash 3 1 3 ≡ Err Used
unfolding vote_added votes_after added after place_for table_for find_row find_free is_vote new_vote no_high with_author answer_of
names-stay = refl

-- its weight is 0, so the fourth author makes no second certificate
pub made-once : vote_added three 5 hash 2 1 3 ≡ Ok None
unfolding vote_added votes_after added after place_for table_for find_row find_free is_vote new_vote no_high with_author answer_of
made-once = refl

-- another hash has a tally of its own, in the lowest free row
pub other-hash : vote_added two 5 other 2 3 3 ≡ quorum_at 1 (signers 4)
unfolding vote_added votes_after added after place_for table_for find_row find_free is_vote new_vote no_high with_author answer_of
other-hash = refl

-- where all tallies are held there is no room for a new one
pub all_held : vote_added (replicate votes_length 1) 5 hash 0 1 3 ≡ Err NoRoom
unfolding vote_added added place_for table_for find_row find_free is_vote answer_of
all_held = refl

-- once the round is past them they are all zeros
pub all-dropped : dropped vote_width vote_tallies two 6 ≡ zeros votes_length
unfolding vote_added votes_after added after place_for table_for find_row find_free is_vote new_vote no_high with_author answer_of dropped kept
all-dropped = refl

-- a lone member's timeout makes the quorum, and its high round is at its place
pub lone-timeout : timeout_added (zeros timeouts_length) 1 0 1 1 ≡ quorum_at 0 (signers 1)
unfolding timeout_added added place_for table_for find_row find_free of_round new_timeout answer_of
lone-timeout = refl

pub lone-high : get_or (highs_at (timeouts_after (zeros timeouts_length) 1 0 1 1 9) 0) 0 0 ≡ 9
unfolding timeouts_after after place_for table_for find_row find_free of_round new_timeout with_high with_author highs_at
lone-high = refl
