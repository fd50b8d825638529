-- 01, START and LOOPBACK up to the vote: what an event does with the block table.
--     Settlement             the answer, the table, the last committed round, and the records that are written
--     is_two_chain b0 b1     b0.round+1 = b1.round
--     clean_of b0 b1 b       what is written once the block b is stored, before the COMMITs
--     commit_if t b0 b1 l    the commit of b0 where b1 follows it, l being the last committed round
--     commit_rec b           the COMMIT of a block
--     linked_of t b b0 b1 l  a block b that is stored, with its ancestors b1 and b0
--     processed_of t w       a block, before its caller asks for a parent
--     wait_of w n            what is written where a block was answered n
--     asking w s             a block's settlement s, and what is written where it waits
--     brought w              what the table is asked for where a block comes
--     is_store k             whether a block comes
--     settled_by t w k       an event whose task is k
--     settled_of t w         an event
--     clean_most, settle_most n  the most bytes that are written before the COMMITs, and over a table of n slots
--     RoomFor w n k          a buffer of k bytes has room for what is written over a table of n slots
--     Settles d k before at r table after    code did what the settlement d says, in at most k bytes
use Rattle.std.specs.Prelude.{◌≡◌, ℕ, ◌+◌, ◌*◌, ◌≤◌, Bool, true, false, cond, List, [], ◌∷◌, ◌++◌, map, eqb, ltb, length, Result, Ok, Err}
use Rattle.outputs.specs.Records.{Rec, commit, sync, clean_proposer, clean_mempool, commit_size, clean_proposer_size, clean_mempool_size}
use Rattle.outputs.specs.Put.{Wrote}
use Rattle.synchronizer.specs.declared.table.Slot.{Slot}
use Rattle.synchronizer.specs.declared.ancestors.Ancestors.{Ancestors}
use Rattle.synchronizer.specs.declared.settle.Task.{Task}
use Rattle.synchronizer.specs.declared.settle.Task.TheVariants.{Nothing, Clear, Store}
use Rattle.synchronizer.specs.declared.settle.Work.{Work}
use Rattle.synchronizer.specs.declared.settle.Arrival.{Arrival}
use Rattle.synchronizer.specs.declared.settle.Settled.{Settled}
use Rattle.certificates.specs.declared.error.Refusal.{Refusal}
use Rattle.certificates.specs.Error.{wait_parent, table_full, code, number}
use Rattle.synchronizer.specs.Table.{place_of, stored, cleared, ancestors_of}
use Rattle.synchronizer.specs.Walk.{Commit, no_commit, commit_of}

pub record Settlement : Type 0 where
  pub answer : ℕ
  pub table : List Slot
  pub last : ℕ
  pub outs : List Rec

abbrev pub answered : ℕ → List Slot → ℕ → List Rec → Settlement
answered n t last outs = record { answer = n; table = t; last = last; outs = outs }

-- ---- a block that is stored

-- "If b0.round+1 = b1.round": "A round plus 1 is exact and never wraps".
-- Jolteon's commit rule: of two adjacent certified blocks b0 and b1 of consecutive rounds, b1.r = b0.r + 1, the first, b0, and all its ancestors are committed.
unfoldable pub is_two_chain : Slot → Slot → Bool
is_two_chain b0 b1 = eqb (b0.round.0 + 1) b1.round.0

-- "CLEAN PROPOSER. If b0.round+1 = b1.round: CLEAN MEMPOOL(b0.round)"
unfoldable pub clean_of : Slot → Slot → Slot → List Rec
clean_of b0 b1 b = clean_proposer b0.digest b1.digest b.digest ∷ cond (is_two_chain b0 b1) (clean_mempool b0.round.0 ∷ []) []

-- "commit b0": the ancestors of b0 that are above last committed are delivered with it
unfoldable pub commit_if : List Slot → Slot → Slot → ℕ → Commit
commit_if t b0 b1 last = cond (is_two_chain b0 b1) (commit_of t b0 last) (no_commit last)

abbrev pub commit_rec : Slot → Rec
commit_rec b = commit b.digest b.round.0

-- "COMMITs are written oldest first."
unfoldable pub linked_of : List Slot → Slot → Slot → Slot → ℕ → Settlement
linked_of t b b0 b1 last =
    answered (commit_if t b0 b1 last).answer t (commit_if t b0 b1 last).last (clean_of b0 b1 b ++ map commit_rec (commit_if t b0 b1 last).blocks)

-- ---- a block

-- "Both stay as found here. Store, replacing an equal digest.", "28 | new digest, no empty slot". A block that is not stored writes nothing here.
unfoldable pub processed_by : List Slot → Arrival → Result Ancestors Refusal → Settlement
processed_by t w (Ok a) =
    cond (ltb (place_of t w.block) (length t))
    (linked_of (stored t w.block) w.block a.b0 a.b1 w.last.0)
    (answered table_full t w.last.0 [])
processed_by t w (Err r) = answered (code r) t w.last.0 []

abbrev pub processed_of : List Slot → Arrival → Settlement
processed_of t w = processed_by t w (ancestors_of t w.block)

-- ---- a block that waits

-- "if absent, SYNC and WAIT PARENT. b0 likewise from b1, but absent gives 30 and no SYNC"
unfoldable pub wait_of : Arrival → ℕ → List Rec
wait_of w n = cond (eqb n wait_parent) (sync w.block.parent w.block.digest w.author.0 ∷ []) []

-- SYNC is written by who settles the event, behind what the block wrote
abbrev pub asking : Arrival → Settlement → Settlement
asking w s = answered s.answer s.table s.last (s.outs ++ wait_of w s.answer)

-- ---- an event

abbrev pub brought : Arrival → Work
brought w = record { task = Store w.block w.author; last = w.last; at = w.at }

abbrev pub is_store : Task → Bool
is_store Nothing = false
is_store Clear = false
is_store (Store b author) = true

abbrev pub settled_by : List Slot → Work → Task → Settlement
settled_by t w Nothing = answered 0 t w.last.0 []
settled_by t w Clear = answered 0 (cleared t) w.last.0 []
settled_by t w (Store b author) =
    asking (record { block = b; author = author; last = w.last; at = w.at }) (processed_of t (record { block = b; author = author; last = w.last; at = w.at }))

unfoldable pub settled_of : List Slot → Work → Settlement
settled_of t w = settled_by t w w.task

-- ---- what code did

abbrev pub clean_most : ℕ
clean_most = clean_proposer_size + clean_mempool_size

abbrev pub settle_most : ℕ → ℕ
settle_most n = clean_most + commit_size * n

abbrev pub RoomFor : Work → ℕ → ℕ → Type 0
RoomFor w n k = is_store w.task ≡ true → w.at + settle_most n ≤ k

pub record Settles (d : Settlement) (k : ℕ) (before : List ℕ) (at : ℕ) (r : Settled) (table : List Slot) (after : List ℕ) : Type 0 where
  pub answer : number r.answer ≡ d.answer
  pub last : r.last.0 ≡ d.last
  pub slots : table ≡ d.table
  pub bytes : Wrote k d.outs before at after r.at
