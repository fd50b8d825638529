-- 01, "Numbers the host sees", its column "Kept".
--     keeping        the numbers with which an event may have changed something
--     may_keep n     n is one of them; with any other an event has changed nothing, and written nothing
use Rattle.std.specs.Prelude.{ℕ, Bool, List, [], ◌∷◌}
use Rattle.certificates.specs.Signers.{member}
use Rattle.certificates.specs.Error.{done, wait_parent, wait_payload, unknown_authority, authority_reuse, invalid_payload, table_full, tallies_full, ancestor_absent, round_not_below}

-- DONE; "2, 3: certificates taken, outputs"; "22, 24 .. early, or late in an own vote, a TIMEOUT tally or TICK"; 27 and 28 "late"; 29 "early for VOTE, else
-- late"; 30 and 31 "late"
abbrev pub keeping : List ℕ
keeping =
    done
    ∷ wait_parent
    ∷ wait_payload
    ∷ unknown_authority
    ∷ authority_reuse
    ∷ invalid_payload
    ∷ table_full
    ∷ tallies_full
    ∷ ancestor_absent
    ∷ round_not_below
    ∷ []

unfoldable pub may_keep : ℕ → Bool
may_keep n = member n keeping
