-- 01, Members, stake, leader.
--     leader_of m r    the place that leads round r; place 0 where there are no members, or more than the limit
use Rattle.std.specs.Prelude.{ℕ, ◌%◌, List, cond, length, eqb, ltb}
use Rattle.certificates.specs.Config.{members_max}

-- "The leader of round r is place r modulo the member count; members with stake 0 lead too."
unfoldable pub leader_of : List ℕ → ℕ → ℕ
leader_of m r = cond (eqb (length m) 0) 0 (cond (ltb members_max (length m)) 0 (r % length m))
