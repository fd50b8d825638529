-- 01, Commit (corrected): the walk from a block to the last committed one.
--     Walk                      a refusal, or the blocks that are delivered, oldest first
--     and_newer w b             the walk w, and then the block b
--     on_parent b last p w      the walk from b whose parent is p, w being the walk from p
--     walk_from n t b last      the walk from b, of at most n blocks
--     walk_of t b last          the walk from b: its budget never runs out (`walk_step` of proofs/WalkLaws.antt)
--     Commit                    what a commit brings: the answer, the last committed round, the blocks that are delivered
--     commit_of t b last        a commit of the block b
--     chain_of n t b            n blocks, b and its ancestors, oldest first
use Rattle.std.specs.Prelude.{ℕ, zero, suc, ◌+◌, cond, List, [], ◌∷◌, ◌++◌, ltb, length, Option, Some, None}
use Rattle.synchronizer.specs.declared.table.Slot.{Slot}
use Rattle.certificates.specs.Error.{ancestor_absent, round_not_below}
use Rattle.synchronizer.specs.Table.{parent_of, slot_in}

pub data Walk : Type 0 where
  refused : ℕ → Walk
  delivers : List Slot → Walk

abbrev pub and_newer : Walk → Slot → Walk
and_newer (refused n) b = refused n
and_newer (delivers bs) b = delivers (bs ++ b ∷ [])

-- "30 | b0 or a walked parent absent", "31 | walked parent's round not below its child's",
-- "a parent at or below last committed ends the walk and is not delivered"
unfoldable pub on_parent : Slot → ℕ → Option Slot → Walk → Walk
on_parent b last None w = refused ancestor_absent
on_parent b last (Some p) w =
    cond (ltb p.round.0 b.round.0)
    (cond (ltb last p.round.0)
    (and_newer w b)
    (delivers (b ∷ [])))
    (refused round_not_below)

-- "walk parents while the round is above last committed + 1"
unfoldable pub walk_from : ℕ → List Slot → Slot → ℕ → Walk
walk_from zero t b last = refused round_not_below
walk_from (suc n) t b last =
    cond (ltb (last + 1) b.round.0) (on_parent b last (parent_of t b) (walk_from n t (slot_in (parent_of t b)) last)) (delivers (b ∷ []))

-- a slot is walked at most once, as each parent's round is below its child's
unfoldable pub walk_of : List Slot → Slot → ℕ → Walk
walk_of t b last = walk_from (suc (length t)) t b last

pub record Commit : Type 0 where
  pub answer : ℕ
  pub last : ℕ
  pub blocks : List Slot

abbrev pub no_commit : ℕ → Commit
no_commit last = record { answer = 0; last = last; blocks = [] }

-- "Last committed becomes b0's round."; "in the walk, block stored, nothing committed"
abbrev pub committed_by : Slot → ℕ → Walk → Commit
committed_by b last (refused n) = record { answer = n; last = last; blocks = [] }
committed_by b last (delivers bs) = record { answer = 0; last = b.round.0; blocks = bs }

-- "nothing if the round is at most last committed"
unfoldable pub commit_of : List Slot → Slot → ℕ → Commit
commit_of t b last = cond (ltb last b.round.0) (committed_by b last (walk_of t b last)) (no_commit last)

unfoldable pub chain_of : ℕ → List Slot → Slot → List Slot
chain_of zero t b = []
chain_of (suc n) t b = chain_of n t (slot_in (parent_of t b)) ++ b ∷ []
