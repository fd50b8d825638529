-- What the functions on values answer: the steps that code takes to the definitions of `Table`, `Walk` and `Settle`. No law of the meaning cites this file.
--     next_walked child last p       what a walk goes on to from a block of the round `child` whose parent is p
--     Count                          what a walk answers, and how many blocks it delivers
--     counted r, count_of c          that: as code says it, and of a commit
--     with_found t b a               the ancestors a of the block b, on a refusal too as far as they were found
--     placed p a, after_store r t' t the ancestors a, where the store then has a place; and the table
--     Admits t b r t'                a block's ancestors and its store
--     CommitsFit t w a k             what a stored block brings has room in k bytes
--     RoomToAsk s k                  k bytes have room for SYNC where the settlement s waits for a parent
--     Asks w s before r after        SYNC behind a settlement s that waits
use Rattle.std.specs.Prelude.{◌≡◌, ℕ, ◌+◌, ◌≤◌, Bool, cond, List, ltb, length, Option, Some, None, Result, Ok, Err}
use Rattle.outputs.specs.Records.{sync_size}
use Rattle.outputs.specs.Put.{Wrote}
use Rattle.synchronizer.specs.declared.table.Slot.{Slot}
use Rattle.synchronizer.specs.declared.ancestors.Ancestors.{Ancestors}
use Rattle.synchronizer.specs.declared.ancestors.Unstored.{Unstored}
use Rattle.synchronizer.specs.declared.settle.Arrival.{Arrival}
use Rattle.synchronizer.specs.declared.settle.Settled.{Settled}
use Rattle.certificates.specs.declared.error.Refusal.{Refusal}
use Rattle.certificates.specs.declared.error.Refusal.TheVariants.{TableFull, AncestorAbsent, RoundNotBelow}
use Rattle.certificates.specs.Error.{done, wait_parent, code, number}
use Rattle.synchronizer.specs.Table.{place_of, stored, b0_of, b1_of, ancestors_of}
use Rattle.synchronizer.specs.Walk.{Commit}
use Rattle.synchronizer.specs.Settle.{commit_if, wait_of, settle_most}

-- ---- the walk

abbrev pub next_walked : ℕ → ℕ → Option Slot → Result (Option Slot) Refusal
next_walked child last None = Err AncestorAbsent
next_walked child last (Some p) = cond (ltb p.round.0 child) (Ok (cond (ltb last p.round.0) (Some p) None)) (Err RoundNotBelow)

pub record Count : Type 0 where
  pub answer : ℕ
  pub blocks : ℕ

abbrev pub counted : Result ℕ Refusal → Count
counted (Ok n) = record { answer = done; blocks = n }
counted (Err r) = record { answer = code r; blocks = 0 }

abbrev pub count_of : Commit → Count
count_of c = record { answer = c.answer; blocks = length c.blocks }

-- ---- a block

-- a block that was not found is the blank slot, and the parent of the blank slot is genesis
abbrev pub with_found : List Slot → Slot → Result Ancestors Refusal → Result Ancestors Unstored
with_found t b (Ok a) = Ok a
with_found t b (Err r) = Err (record { refusal = r; found = record { b0 = b0_of t b; b1 = b1_of t b } })

-- where both ancestors were found, the store may still have no place
abbrev pub placed : Bool → Result Ancestors Refusal → Result Ancestors Refusal
placed place (Ok a) = cond place (Ok a) (Err TableFull)
placed place (Err r) = Err r

abbrev pub after_store : Result Ancestors Refusal → List Slot → List Slot → List Slot
after_store (Ok a) t' t = t'
after_store (Err r) t' t = t

-- the ancestors, as they were found; and the table then
pub record Admits (t : List Slot) (b : Slot) (r : Result Ancestors Unstored) (t' : List Slot) : Type 0 where
  pub answer : r ≡ with_found t b (placed (ltb (place_of t b) (length t)) (ancestors_of t b))
  pub slots : t' ≡ after_store (placed (ltb (place_of t b) (length t)) (ancestors_of t b)) (stored t b) t

abbrev pub CommitsFit : List Slot → Arrival → Ancestors → ℕ → Type 0
CommitsFit t w a k = (w.at + settle_most (length t) ≤ k) × (length (commit_if t a.b0 a.b1 w.last.0).blocks ≤ length t)

abbrev pub RoomToAsk : Settled → ℕ → Type 0
RoomToAsk s k = number s.answer ≡ wait_parent → s.at + sync_size ≤ k

pub record Asks (w : Arrival) (s : Settled) (before : List ℕ) (r : Settled) (after : List ℕ) : Type 0 where
  pub answer : r.answer ≡ s.answer
  pub last : r.last ≡ s.last
  pub bytes : Wrote sync_size (wait_of w (number s.answer)) before s.at after r.at
