-- 01, The trace form: the fields of an event, in the table's order.
--     vote_of r, timeout_of r, block_of r   of a VOTE, of a TIMEOUT, and of a PROPOSE or LOOPBACK
--     block_tc_of r                         the TC of a PROPOSE or LOOPBACK, if it has one
--     TcWithin t                            the round of the TC, if there is one, is within the limit
use Rattle.std.specs.Prelude.{ℕ, ◌≤◌, cond, List, get_or, eqb, Option, Some, None}
use Rattle.certificates.specs.Numbers.{round_max}
use Rattle.certificates.specs.Num.{num_at, hash_at}
use Rattle.trace.specs.Layout.{qc_round, tc_round, tc_part, block_qc, timeout_qc, tc_at, largest_high}
use Rattle.trace.specs.declared.events.Vote.{Vote}
use Rattle.trace.specs.declared.events.Timeout.{Timeout}
use Rattle.trace.specs.declared.events.Block.{Block}
use Rattle.trace.specs.declared.events.BlockTc.{BlockTc}

-- "hash 32, round 8, author 2, verdict 1"
unfoldable pub vote_of : List ℕ → Vote
vote_of r =
    record {
      hash = hash_at r 2;
      round = record { 0 = num_at 8 r 34 };
      author = record { 0 = num_at 2 r 42 };
      verdict = get_or r 44 0;
    }

-- "round 8, author 2, verdict 1, QC"
unfoldable pub timeout_of : List ℕ → Timeout
timeout_of r =
    record {
      round = record { 0 = num_at 8 r 2 };
      author = record { 0 = num_at 2 r 10 };
      verdict = get_or r 12 0;
      qc_hash = hash_at r timeout_qc;
      qc_round = record { 0 = qc_round r timeout_qc };
    }

unfoldable pub block_tc_of : List ℕ → Option BlockTc
block_tc_of r =
    cond (eqb (tc_at r) 0) None
    (Some (record { at = tc_at r; round = record { 0 = tc_round r (tc_at r) }; high = record { 0 = largest_high (tc_part r (tc_at r)) } }))

abbrev pub TcWithin : Option BlockTc → Type 0
TcWithin None = Unit
TcWithin (Some t) = t.round.0 ≤ round_max

-- "Block: digest 32, author 2, round 8, verdict 1, QC, TC flag 1, TC if flag 1."
unfoldable pub block_of : List ℕ → Block
block_of r =
    record {
      digest = hash_at r 2;
      author = record { 0 = num_at 2 r 34 };
      round = record { 0 = num_at 8 r 36 };
      verdict = get_or r 44 0;
      qc_hash = hash_at r block_qc;
      qc_round = record { 0 = qc_round r block_qc };
      tc = block_tc_of r;
    }
