-- W11 on bytes: what a host that calls `step` for a course finds in its buffers.
--     commit_kind         the kind of a COMMIT
--     commits_from n s    the COMMITs among the first n records of the output bytes s, as they lie
--     commits_in s        all of them
--     Calls c             the calls of `step` that make the course c: START, and one for each stage
use Rattle.std.specs.Prelude.{ℕ, zero, suc, ◌+◌, false, cond, List, [], ◌∷◌, ◌++◌, map, ◌≡◌, eqb, leb, length, take, drop}
use Rattle.certificates.specs.Num.{num_at}
use Rattle.certificates.specs.Numbers.{zero_hash}
use Rattle.outputs.specs.Records.{kind_of, commit}
use Rattle.runs.specs.Courses.{Course}
use Rattle.runs.specs.Calls.{Call, stage_of, Played}

abbrev pub commit_kind : ℕ
commit_kind = kind_of (commit zero_hash 0)

-- "A record is a two-byte length (bytes after it), a two-byte kind, a body."
unfoldable pub commits_from : ℕ → List ℕ → List ℕ
commits_from zero s = []
commits_from (suc n) s =
    cond (leb 4 (length s)) (cond (eqb (num_at 2 s 2) commit_kind) (take (num_at 2 s 0 + 2) s) [] ++ commits_from n (drop (num_at 2 s 0 + 2) s)) []

-- no record is shorter than a byte
abbrev pub commits_in : List ℕ → List ℕ
commits_in s = commits_from (length s) s

pub record Calls (c : Course) : Type 0 where
  pub first : Call
  pub rest : List Call
  pub played : Played c.lent (first ∷ rest)
  pub start : stage_of first ≡ record { event = c.start; cut = false }
  pub stages : map stage_of rest ≡ c.stages
