-- 01, Members, stake, leader: a committee is the list m of its members' stakes, by place.
--     members_max      the most members
--     total_max        the most stake
--     sum xs           the sum of a list; of a committee, its total stake
--     stake_of m p     the stake of place p; 0 where p is no member's
--     quorum_from t    the quorum of a total
--     quorum_of m      the quorum of a committee
--     limited t        the total, or `None` where it is above the limit
--     setup_of m       the total of a committee within the limits, else `None`
use Rattle.std.specs.Prelude.{ℕ, ◌+◌, ◌*◌, ◌/◌, List, [], ◌∷◌, cond, length, get_or, eqb, ltb, Option, None, Some}
use Rattle.certificates.specs.declared.numbers.Stake.{Stake}

-- "1 to 64 members"
abbrev pub members_max : ℕ
members_max = 64

-- "total stake at most 2^31-1"
abbrev pub total_max : ℕ
total_max = 2147483647

unfoldable pub sum : List ℕ → ℕ
sum [] = 0
sum (x ∷ xs) = x + sum xs

-- "A member is named by its place, from 0. A place not below the count is unknown, with stake 0."
unfoldable pub stake_of : List ℕ → ℕ → ℕ
stake_of m p = get_or m p 0

-- "Quorum is 2*total/3+1, rounded down at the division."
unfoldable pub quorum_from : ℕ → ℕ
quorum_from t = 2 * t / 3 + 1

unfoldable pub quorum_of : List ℕ → ℕ
quorum_of m = quorum_from (sum m)

unfoldable pub limited : ℕ → Option Stake
limited t = cond (ltb total_max t) None (Some record { 0 = t })

unfoldable pub setup_of : List ℕ → Option Stake
setup_of m = cond (eqb (length m) 0) None (cond (ltb members_max (length m)) None (limited (sum m)))
