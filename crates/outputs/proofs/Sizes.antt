-- How long records are. Assumes nothing.
use mathlib.Core.Path.{◌≡◌, refl}
use Prim.Native.Nat.{ℕ, ◌≤◌}
use native.Mathlib.Omega.{arith}
use lib.Dec.{lit≤}
use lib.ListN.{length}
use Rattle.outputs.specs.Fields.{digits, hash_bytes, bytes_of}
use Rattle.outputs.specs.Records.{Rec, vote, timeout, tc, make, make_with, commit, sync, clean_proposer, clean_mempool, timer_reset, answer}
use Rattle.outputs.specs.Records.{members_max, qc_fields, places_of, tc_fields, framed, body_of, enc, size_of, make_with_most}
use Rattle.outputs.proofs.Places.{places-most}
use Rattle.outputs.proofs.Recs.{length-entries}

pub length-enc : (r : Rec) → length (enc r) ≡ size_of r
unfolding enc body_of framed qc_fields tc_fields bytes_of hash_bytes digits
length-enc (vote to block round) = refl
length-enc (timeout round high) = refl
length-enc (tc round names highs) = rw (length-entries (places_of names) highs) (omega arith)
length-enc (make round high) = refl
length-enc (make_with round high of names highs) = rw (length-entries (places_of names) highs) (omega arith)
length-enc (commit digest round) = refl
length-enc (sync parent block author) = refl
length-enc (clean_proposer b0 b1 block) = refl
length-enc (clean_mempool round) = refl
length-enc timer_reset = refl
length-enc (answer n) = refl

-- no record is longer than a MAKE with a TC of all members
few : (w : ℕ) → length (places_of w) ≤ members_max
unfolding places_of
few w = places-most members_max 0 w

pub size-most : (r : Rec) → size_of r ≤ make_with_most
size-most (vote to block round) = lit≤ tt
size-most (timeout round high) = lit≤ tt
size-most (tc round names highs) = omega (arith, few names)
size-most (make round high) = lit≤ tt
size-most (make_with round high of names highs) = omega (arith, few names)
size-most (commit digest round) = lit≤ tt
size-most (sync parent block author) = lit≤ tt
size-most (clean_proposer b0 b1 block) = lit≤ tt
size-most (clean_mempool round) = lit≤ tt
size-most timer_reset = lit≤ tt
size-most (answer n) = lit≤ tt
