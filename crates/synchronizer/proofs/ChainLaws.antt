-- Laws of writing a chain of COMMITs, the newest first and at falling places, so that they stand oldest first.
--     Pending t c before b n now  once the COMMITs of n blocks, b the newest, are written into `now`, those of c are written into `before`
--     pending-less                b is written, and its parent comes next
--     pending-none                none is left
-- Assumes nothing.
use mathlib.Core.Path.{◌≡◌, refl, ◌∙◌}
use Prim.Native.Nat.{ℕ, zero, suc, ◌+◌, ◌*◌, ◌<◌, ◌≤◌}
use native.Mathlib.Nat.{add-zero}
use native.Mathlib.Numerals.{add-one}
use native.Mathlib.Omega.{arith}
use mathlib.Core.List.{List, [], ◌∷◌, map, map-append}
use lib.ListN.{length, length-append}
use Rattle.outputs.specs.Records.{enc, enc_all, commit_size}
use Rattle.outputs.specs.Put.{Put, Wrote}
use Rattle.outputs.proofs.Wrote.{wrote_none, wrote-before, wrote-more, length-each}
use Rattle.outputs.proofs.Sizes.{length-enc}
use Rattle.synchronizer.specs.declared.table.Slot.{Slot}
use Rattle.synchronizer.specs.declared.commit.Chain.{Chain}
use Rattle.synchronizer.specs.Table.{parent_of, slot_in}
use Rattle.synchronizer.specs.Walk.{chain_of}
use Rattle.synchronizer.specs.Settle.{commit_rec}

pub chain_length : (n : ℕ) (t : List Slot) (b : Slot) → length (chain_of n t b) ≡ n
unfolding chain_of
chain_length zero t b = refl
chain_length (suc n) t b = length-append (chain_of n t (slot_in (parent_of t b))) (b ∷ []) ∙ rw (chain_length n t (slot_in (parent_of t b)), add-one)

-- the bytes of a chain's COMMITs
commits-length : (n : ℕ) (t : List Slot) (b : Slot) → length (enc_all (map commit_rec (chain_of n t b))) ≡ commit_size * n
commits-length n t b = length-each commit_rec commit_size (λ s. length-enc (commit_rec s)) (chain_of n t b) ∙ rw (chain_length n t b)

-- the COMMITs of n blocks, b the newest, into `now` at the chain's place, which end up in `after`
abbrev Written : List Slot → ℕ → Slot → ℕ → List ℕ → List ℕ → Type 0
Written t at b n now after = Wrote (commit_size * n) (map commit_rec (chain_of n t b)) now at after (at + commit_size * n)

pub record Pending (t : List Slot) (c : Chain) (before : List ℕ) (b : Slot) (n : ℕ) (now : List ℕ) : Type 0 where
  pub small : n ≤ c.left
  pub then : (after : List ℕ) → Written t c.at b n now after → Written t c.at c.block c.left before after

-- after the last block nothing is asked of its parent
rest-same : (n : ℕ) (t : List Slot) (b p : Slot) → (0 < n → b ≡ p) → chain_of n t b ≡ chain_of n t p
unfolding chain_of
rest-same zero t b p e = refl
rest-same (suc n) t b p e = let is : b ≡ p = e (omega arith) in rw is

-- one block more, in front of what is written behind it
one_more : (n : ℕ) (t : List Slot) (b next : Slot) (at : ℕ) {now mid after : List ℕ} → (0 < n → next ≡ slot_in (parent_of t b))
    → Put now (at + commit_size * n) commit_size (enc (commit_rec b)) mid (at + commit_size * suc n)
    → Written t at next n mid after → Written t at b (suc n) now after
unfolding chain_of
one_more n t b next at {now} {mid} {after} e p w =
    let v : Wrote (commit_size * n) (map commit_rec (chain_of n t (slot_in (parent_of t b)))) mid at after (at + commit_size * n) = rw (rest-same n t next _ e) at w in
    let l : length (enc_all (map commit_rec (chain_of n t (slot_in (parent_of t b))))) ≡ commit_size * n = commits-length n t (slot_in (parent_of t b)) in
    let put : Put now (at + length (enc_all (map commit_rec (chain_of n t (slot_in (parent_of t b)))))) commit_size (enc (commit_rec b)) mid (at + commit_size * suc n) = rw l p in
    let rest : Wrote (commit_size * n) (map commit_rec (chain_of n t (slot_in (parent_of t b)))) mid at after (at + length (enc_all (map commit_rec (chain_of n t (slot_in (parent_of t b)))))) = rw l v in
    rw map-append (wrote-more (wrote-before (commit_rec b) put rest) (omega arith))

pub pending-less : (t : List Slot) (c : Chain) {before : List ℕ} (b next : Slot) (n end : ℕ) {now mid : List ℕ} → Pending t c before b (n + 1) now
    → Put now (c.at + commit_size * n) commit_size (enc (commit_rec b)) mid end → (0 < n → next ≡ slot_in (parent_of t b)) → Pending t c before next n mid
pending-less t c b next n end k put e =
    record {
      small = omega (arith, k.small);
      then = λ after w. k.then after (rw add-one (one_more n t b next c.at e (rw ends put) w));
    }
  where
    ends : c.at + commit_size * suc n ≡ end
    ends = omega (arith, put.place)

pub pending-none : (t : List Slot) (c : Chain) {before : List ℕ} (b : Slot) {now : List ℕ} → Pending t c before b 0 now
    → Wrote (commit_size * c.left) (map commit_rec (chain_of c.left t c.block)) before c.at now (c.at + commit_size * c.left)
unfolding chain_of
pending-none t c b {now} k = k.then now (rw add-zero (wrote_none 0 now c.at))
