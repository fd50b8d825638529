-- Laws of `specs/Settle.antt` and of the parts of it in `specs/Parts.antt`.
--     commits-fit              at most as many COMMITs as slots: after the store b1's slot or b0's is still there, and neither is below b0
--     clean-.., asks-..        the ways out of the functions on values
--     count-.., commit-..      what follows the store
--     admit-..                 a block's ancestors and its store
--     process-..               a block
--     processed-is             what a block comes to, by the number of its ancestors
--     processed-waits          a block that waits for its parent has written nothing
--     ask-.., wait-none        SYNC behind what a block wrote; where it does not wait, nothing
--     settle-..                an event
--     settled-.., processed-.. what a settlement is, case by case
--     settles-unique           the outcome is determined
-- Assumes nothing.
use mathlib.Core.Path.{◌≡◌, refl, sym, ◌∙◌, ap}
use Prim.Native.Nat.{ℕ, ◌+◌, ◌*◌, ◌<◌, ◌≤◌}
use native.Mathlib.Omega.{arith}
use mathlib.Core.Bool.{Bool, true, false, cond, true≢false}
use mathlib.Core.List.{List, [], ◌∷◌, map, append-nil}
use lib.Dec.{ltb, eqb}
use lib.ListN.{length, set, length-set}
use lib.Seq.{get_or-set_other, set_out}
use borrow.Author.Tests.{lt-ltb, le-ltb, ltb-false, ne_eqb, eqb-true, eqb-false}
use Rattle.certificates.specs.declared.numbers.Place.{Place}
use Rattle.certificates.specs.declared.numbers.Round.{Round}
use Rattle.outputs.specs.Records.{Rec, enc, enc_all, sync, clean_proposer, clean_mempool, commit_size, sync_size, clean_proposer_size, clean_mempool_size}
use Rattle.outputs.specs.Put.{Put, Wrote}
use Rattle.outputs.proofs.Wrote.{all_none, wrote_none, wrote_one, wrote_then, wrote-more}
use Rattle.std.specs.Prelude.{Result, Ok, Err}
use Rattle.synchronizer.specs.declared.table.Slot.{Slot}
use Rattle.synchronizer.specs.declared.ancestors.Ancestors.{Ancestors}
use Rattle.synchronizer.specs.declared.ancestors.Unstored.{Unstored}
use Rattle.synchronizer.specs.declared.settle.Task.{Task}
use Rattle.synchronizer.specs.declared.settle.Task.TheVariants.{Nothing, Clear, Store}
use Rattle.synchronizer.specs.declared.settle.Arrival.{Arrival}
use Rattle.synchronizer.specs.declared.settle.Work.{Work}
use Rattle.synchronizer.specs.declared.settle.Settled.{Settled}
use Rattle.certificates.specs.declared.error.Refusal.{Refusal}
use Rattle.certificates.specs.declared.error.Refusal.TheVariants.{WaitParent, TableFull}
use Rattle.certificates.specs.Error.{wait_parent, table_full, code, number}
use Rattle.certificates.proofs.ErrorLaws.{code-some}
use Rattle.synchronizer.specs.Table.{slot_at, blank, place_of, stored, store_answer, cleared, b0_of, b1_of, ancestors_of, found_number}
use Rattle.synchronizer.specs.Walk.{Commit, commit_of, chain_of}
use Rattle.synchronizer.specs.Settle.{Settlement, answered, is_two_chain, clean_of, commit_if, commit_rec, linked_of, wait_of, asking, processed_by, processed_of, brought, is_store, settled_by, settled_of, clean_most, settle_most, Settles}
use Rattle.synchronizer.specs.Parts.{Count, counted, count_of, with_found, placed, Admits, CommitsFit, RoomToAsk, Asks}
use Rattle.certificates.proofs.Codes.{code-same, number-same}
use Rattle.synchronizer.proofs.Tests.{by_cases}
use Rattle.synchronizer.proofs.TableLaws.{ancestors-are, ancestors-found, ancestors-both, stored-length, cleared-length}
use Rattle.synchronizer.proofs.WalkLaws.{below, below-some, InTable, parent_in, commit-size, commit-chain, commit-never-waits}

-- ---- the ways out of the functions on values

module _ (w : Arrival) (a : Ancestors) {before between : List ℕ} {mid : ℕ} {t : Bool} (e : t ≡ is_two_chain a.b0 a.b1)
    (p : Put before w.at clean_proposer_size (enc (clean_proposer a.b0.digest a.b1.digest w.block.digest)) between mid) where
  pub clean-both : {after : List ℕ} {next : ℕ} → t ≡ true → Put between mid clean_mempool_size (enc (clean_mempool a.b0.round.0)) after next
      → Wrote clean_most (clean_of a.b0 a.b1 w.block) before w.at after next
  unfolding clean_of
  clean-both y q = rw (← e, y) (wrote_then (wrote_one (clean_proposer a.b0.digest a.b1.digest w.block.digest) p) (wrote_one (clean_mempool a.b0.round.0) q))

  pub clean-one : t ≡ false → Wrote clean_most (clean_of a.b0 a.b1 w.block) before w.at between mid
  unfolding clean_of
  clean-one n = rw (← e, n) (wrote-more (wrote_one (clean_proposer a.b0.digest a.b1.digest w.block.digest) p) (omega arith))

module _ (w : Arrival) (s : Settled) where
  pub asks-sync : {before after : List ℕ} {next : ℕ} → s.answer ≡ Err WaitParent → Put before s.at sync_size (enc (sync w.block.parent w.block.digest w.author.0)) after next
      → Asks w s before (record { answer = s.answer; last = s.last; at = next }) after
  unfolding wait_of
  asks-sync z p = record { answer = refl; last = refl; bytes = rw z (wrote_one (sync w.block.parent w.block.digest w.author.0) p) }

  pub asks_none : (before : List ℕ) → (s.answer ≡ Err WaitParent → ⊥) → Asks w s before s before
  unfolding wait_of
  asks_none before n =
      record {
        answer = refl;
        last = refl;
        bytes = rw (ne_eqb (number s.answer) wait_parent (λ e. n (number-same s.answer (Err WaitParent) e))) (wrote_none sync_size before s.at);
      }

-- ---- at most as many COMMITs as slots

-- b1 follows b0, and both are slots of a table in which one slot is then changed: one of the two is still there
other-slot : (t : List Slot) (k : ℕ) (b b0 b1 : Slot) → InTable t b0 → InTable t b1 → b0.round.0 + 1 ≡ b1.round.0 → below (set t k b) b0.round.0 < length (set t k b)
other-slot t k b b0 b1 p q e =
    by_cases (eqb q.place k)
    (λ s. let there : p.place ≡ q.place → ⊥ = λ same. let z : (slot_at t p.place).round.0 ≡ (slot_at t q.place).round.0 = ap (λ (i : ℕ). (slot_at t i).round.0) same in
    let x : b0.round.0 ≡ b1.round.0 = ap (λ (u : Slot). u.round.0) p.is ∙ z ∙ sym (ap (λ (u : Slot). u.round.0) q.is) in omega arith in
    let is : slot_at (set t k b) p.place ≡ b0 = get_or-set_other t k p.place b blank (λ x. there (x ∙ sym (eqb-true q.place k s))) ∙ sym p.is in
    below-some (set t k b) p.place b0.round.0 (rw (length-set t k b) p.within) (rw is (omega arith)))
    (λ s. let is : slot_at (set t k b) q.place ≡ b1 = get_or-set_other t k q.place b blank (eqb-false q.place k s) ∙ sym q.is in
    below-some (set t k b) q.place b0.round.0 (rw (length-set t k b) q.within) (rw is (omega arith)))

pub commits-fit : (t : List Slot) (b : Slot) (last : ℕ) → found_number (ancestors_of t b) ≡ 0
    → length (commit_if (stored t b) (b0_of t b) (b1_of t b) last).blocks ≤ length t
unfolding commit_if stored is_two_chain
commits-fit t b last e =
    let f = ancestors-both t b e in
    by_cases (eqb ((b0_of t b).round.0 + 1) (b1_of t b).round.0)
    (λ s. let next : (b0_of t b).round.0 + 1 ≡ (b1_of t b).round.0 = eqb-true _ _ s in
    rw s (commit-size (set t (place_of t b) b) (b0_of t b) last (length t)
    (λ l. omega (
      arith,
      length-set t (place_of t b) b,
      other-slot t (place_of t b) b (b0_of t b) (b1_of t b)
          (parent_in t (b1_of t b) f.1 (omega arith)) (parent_in t b f.0 (omega arith)) next,
    ))))
    (λ s. rw s (omega arith))

-- ---- a stored block

commit-if-chain : (t : List Slot) (b0 b1 : Slot) (last : ℕ)
    → ((commit_if t b0 b1 last).blocks ≡ chain_of (length (commit_if t b0 b1 last).blocks) t b0) × ((commit_if t b0 b1 last).last ≡ cond (ltb 0 (length (commit_if t b0 b1 last).blocks)) b0.round.0 last)
unfolding commit_if chain_of
commit-if-chain t b0 b1 last = by_cases (is_two_chain b0 b1) (λ e. rw e (commit-chain t b0 last)) (λ e. rw e (refl, refl))

-- a round of one of two
round-of : (t : Bool) (x y : Round) → (cond t x y).0 ≡ cond t x.0 y.0
round-of true x y = refl
round-of false x y = refl

-- where b1 does not follow b0, nothing is committed
pub count-walked : (t : List Slot) (b0 b1 : Slot) (last : ℕ) (r : Result ℕ Refusal) → is_two_chain b0 b1 ≡ true → counted r ≡ count_of (commit_of t b0 last)
    → counted r ≡ count_of (commit_if t b0 b1 last)
unfolding commit_if
count-walked t b0 b1 last r y e = rw y e

pub count-none : (t : List Slot) (b0 b1 : Slot) (last : ℕ) → is_two_chain b0 b1 ≡ false → counted (Ok 0) ≡ count_of (commit_if t b0 b1 last)
unfolding commit_if
count-none t b0 b1 last n = rw n

-- a count is that of the commit, so none is delivered where it is refused
no-blocks : (bs : List Slot) → 0 ≡ length bs → bs ≡ []
no-blocks [] e = refl
no-blocks (b ∷ bs) e = absurd (omega arith)

module _ (t : List Slot) (w : Arrival) (a : Ancestors) {before mid : List ℕ} (room : CommitsFit t w a (length before)) {at : ℕ}
    (clean : Wrote clean_most (clean_of a.b0 a.b1 w.block) before w.at mid at) where
  abbrev brings : Commit
  brings = commit_if t a.b0 a.b1 w.last.0

  pub commit-done : {n : ℕ} {after : List ℕ} {last : Round} → counted (Ok n) ≡ count_of brings
      → Wrote (commit_size * n) (map commit_rec (chain_of n t a.b0)) mid at after (at + commit_size * n)
      → last ≡ cond (ltb 0 n) a.b0.round w.last
      → Settles (linked_of t w.block a.b0 a.b1 w.last.0) (settle_most (length t)) before w.at (record { answer = Ok tt; last = last; at = at + commit_size * n }) t after
  unfolding linked_of
  commit-done {n} is wrote l =
      let chain = commit-if-chain t a.b0 a.b1 w.last.0 in
      let blocks : n ≡ length brings.blocks = ap (λ (x : Count). x.blocks) is in
      let delivers : chain_of n t a.b0 ≡ brings.blocks = rw blocks (sym chain.0) in
      record {
        answer = ap (λ (x : Count). x.answer) is;
        last = ap (λ (x : Round). x.0) l ∙ round-of (ltb 0 n) a.b0.round w.last ∙ rw blocks (sym chain.1);
        slots = refl;
        bytes = wrote-more (wrote_then clean (rw delivers at wrote)) (omega (arith, room.1));
      }

  pub commit-stopped : {x : Refusal} → counted (Err x) ≡ count_of brings
      → Settles (linked_of t w.block a.b0 a.b1 w.last.0) (settle_most (length t)) before w.at (record { answer = Err x; last = w.last; at = at }) t mid
  unfolding linked_of
  commit-stopped {x} is =
      let chain = commit-if-chain t a.b0 a.b1 w.last.0 in
      let none : brings.blocks ≡ [] = no-blocks brings.blocks (ap (λ (c : Count). c.blocks) is) in
      record {
        answer = ap (λ (c : Count). c.answer) is;
        last = rw none at (sym chain.1);
        slots = refl;
        bytes = rw (none, append-nil) (wrote-more clean (omega arith));
      }

-- ---- a block's ancestors and its store

store-room : (i n : ℕ) → store_answer i n ≡ 0 → ltb i n ≡ true
store-room i n = by_cases (ltb i n) (λ e. rw e (λ _. refl)) (λ e. rw e (λ z. absurd (omega arith)))

-- with what was found, ancestors stay as they are, and a refusal is the same refusal
found-ok : (t : List Slot) (b : Slot) (f : Result Ancestors Refusal) {a : Ancestors} → with_found t b f ≡ Ok a → f ≡ Ok a
found-ok t b (Ok c) e = cc
found-ok t b (Err x) e = absurd (let z : ◌≡◌ {A = ℕ} 0 1 = cc in omega arith)

found-err : (t : List Slot) (b : Slot) (f : Result Ancestors Refusal) {u : Unstored} → with_found t b f ≡ Err u → f ≡ Err u.refusal
found-err t b (Ok c) e = absurd (let z : ◌≡◌ {A = ℕ} 0 1 = cc in omega arith)
found-err t b (Err x) {u} e =
    let same : record { refusal = x; found = record { b0 = b0_of t b; b1 = b1_of t b } } ≡ u = cc in
    ap (λ (v : Unstored). Err v.refusal) same

module _ (t : List Slot) (b : Slot) where
  module _ {a : Ancestors} (e : with_found t b (ancestors_of t b) ≡ Ok a) {t' : List Slot} where
    -- a store that is refused changes nothing
    pub admit-full : {x : Refusal} → (code x ≡ store_answer (place_of t b) (length t)) × (t' ≡ stored t b)
        → Admits t b (Err (record { refusal = x; found = a })) t'
    unfolding stored
    admit-full {x} said =
        let found = found-ok t b (ancestors_of t b) e in
        by_cases (ltb (place_of t b) (length t))
        (λ p. absurd (code-some x (said.0 ∙ rw p)))
        (λ p. let is : code x ≡ code TableFull = said.0 ∙ rw p in
        let same : x ≡ TableFull = code-same is in
        record {
          answer = rw (found, p, same, ancestors-are t b found);
          slots = rw (found, p) (said.1 ∙ set_out t (place_of t b) b (ltb-false _ _ p));
        })

-- what was placed had its ancestors and a place
placed-ok : (p : Bool) (f : Result Ancestors Refusal) {a : Ancestors} → placed p f ≡ Ok a → (f ≡ Ok a) × (p ≡ true)
placed-ok true (Ok b) e = (e, refl)
placed-ok false (Ok b) e = absurd (let z : ◌≡◌ {A = ℕ} 0 1 = cc in omega arith)
placed-ok p (Err r) e = absurd (let z : ◌≡◌ {A = ℕ} 0 1 = cc in omega arith)

module _ (t : List Slot) (w : Arrival) {r : Result Ancestors Unstored} {t' : List Slot} (got : Admits t w.block r t') where
  module _ {a : Ancestors} (z : r ≡ Ok a) where
    is-placed : placed (ltb (place_of t w.block) (length t)) (ancestors_of t w.block) ≡ Ok a
    is-placed = found-ok t w.block (placed (ltb (place_of t w.block) (length t)) (ancestors_of t w.block)) (sym got.answer ∙ z)

    admitted : (ancestors_of t w.block ≡ Ok a) × (ltb (place_of t w.block) (length t) ≡ true)
    admitted = placed-ok (ltb (place_of t w.block) (length t)) (ancestors_of t w.block) is-placed

    now : t' ≡ stored t w.block
    now = got.slots ∙ rw is-placed

    same-length : length t' ≡ length t
    same-length = ap length now ∙ stored-length t w.block

    pub process-room : (k : ℕ) → w.at + settle_most (length t) ≤ k → CommitsFit t' w a k
    process-room k h =
        (rw same-length h, rw (ancestors-are t w.block admitted.0, now, stored-length) (commits-fit t w.block w.last.0 (ap found_number admitted.0)))

    pub process-done : {s : Settled} {before after : List ℕ} → Settles (linked_of t' w.block a.b0 a.b1 w.last.0) (settle_most (length t')) before w.at s t' after
        → Settles (processed_of t w) (settle_most (length t)) before w.at s t' after
    unfolding processed_by
    process-done p = rw (admitted.0, admitted.1, ← now, ← same-length) p

  -- a block that is not stored
  full : {x : Refusal} (p : Bool) (a : Ancestors) (s : Settlement) → placed p (Ok a) ≡ Err x → cond p s (answered table_full t w.last.0 []) ≡ answered (code x) t w.last.0 []
  full true a s e = absurd (let z : ◌≡◌ {A = ℕ} 0 1 = cc in omega arith)
  full {x} false a s e = let same : TableFull ≡ x = cc in ap (λ (r : Refusal). answered (code r) t w.last.0 []) same

  refused-is : {x : Refusal} (f : Result Ancestors Refusal) → placed (ltb (place_of t w.block) (length t)) f ≡ Err x → processed_by t w f ≡ answered (code x) t w.last.0 []
  unfolding processed_by
  refused-is (Ok a) e = full (ltb (place_of t w.block) (length t)) a _ e
  refused-is {x} (Err y) e = let same : y ≡ x = cc in ap (λ (r : Refusal). answered (code r) t w.last.0 []) same

  pub process-none : {u : Unstored} (before : List ℕ) → r ≡ Err u
      → Settles (processed_of t w) (settle_most (length t)) before w.at (record { answer = Err u.refusal; last = w.last; at = w.at }) t' before
  process-none before z =
      let is = found-err t w.block (placed (ltb (place_of t w.block) (length t)) (ancestors_of t w.block)) (sym got.answer ∙ z) in
      rw (refused-is (ancestors_of t w.block) is)
      (record { answer = refl; last = refl; slots = got.slots ∙ rw is; bytes = wrote_none (settle_most (length t)) before w.at })

-- ---- what a block comes to, by its number

processed-cases : (t : List Slot) (w : Arrival) (f : Result Ancestors Refusal) (a : Ancestors) → (found_number f ≡ 0 → f ≡ Ok a)
    → processed_by t w f
    ≡ cond (eqb (found_number f) 0)
    (cond (ltb (place_of t w.block) (length t)) (linked_of (stored t w.block) w.block a.b0 a.b1 w.last.0) (answered table_full t w.last.0 []))
    (answered (found_number f) t w.last.0 [])
unfolding processed_by
processed-cases t w (Ok b) a h = let same : b ≡ a = (let e : ◌≡◌ {A = Result Ancestors Refusal} (Ok b) (Ok a) = h refl in cc) in rw same
processed-cases t w (Err r) a h = rw (ne_eqb (code r) 0 (code-some r))

pub processed-is : (t : List Slot) (w : Arrival)
    → processed_of t w
    ≡ cond (eqb (found_number (ancestors_of t w.block)) 0)
    (cond (ltb (place_of t w.block) (length t)) (linked_of (stored t w.block) w.block (b0_of t w.block) (b1_of t w.block) w.last.0) (answered table_full t w.last.0 []))
    (answered (found_number (ancestors_of t w.block)) t w.last.0 [])
processed-is t w = processed-cases t w (ancestors_of t w.block) _ (ancestors-found t w.block)

-- ---- a block that waits

-- a stored block does not
linked-never-waits : (t : List Slot) (b b0 b1 : Slot) (last : ℕ) → (linked_of t b b0 b1 last).answer ≡ wait_parent → ⊥
unfolding linked_of commit_if
linked-never-waits t b b0 b1 last = by_cases (is_two_chain b0 b1) (λ e. rw e (commit-never-waits t b0 last)) (λ e. rw e (λ z. omega arith))

-- so where one waits, nothing was written
pub processed-waits : (t : List Slot) (w : Arrival) → (processed_of t w).answer ≡ wait_parent → (processed_of t w).outs ≡ []
processed-waits t w =
    rw (processed-is t w)
    (by_cases (eqb (found_number (ancestors_of t w.block)) 0)
    (λ e. by_cases (ltb (place_of t w.block) (length t))
    (λ f. rw (e, f) (λ z. absurd (linked-never-waits (stored t w.block) w.block (b0_of t w.block) (b1_of t w.block) w.last.0 z)))
    (λ f. rw (e, f) (λ z. refl)))
    (λ e. rw e (λ z. refl)))

-- a block that does not wait asks for nothing
pub wait-none : (w : Arrival) (n : ℕ) → eqb n wait_parent ≡ false → wait_of w n ≡ []
unfolding wait_of
wait-none w n e = rw e

asking-linked : (w : Arrival) (t : List Slot) (b b0 b1 : Slot) (last : ℕ) → asking w (linked_of t b b0 b1 last) ≡ linked_of t b b0 b1 last
asking-linked w t b b0 b1 last = rw (wait-none w (linked_of t b b0 b1 last).answer (ne_eqb _ _ (linked-never-waits t b b0 b1 last)), append-nil)

wrote_nothing : {k at next : ℕ} {outs : List Rec} {before after : List ℕ} → outs ≡ [] → Wrote k outs before at after next → next ≡ at
wrote_nothing {at = at} {next = next} e p =
    let none : next ≡ at + length (enc_all []) = rw e at p.place in
    omega (arith, none, ap length all_none)

module _ (t : List Slot) (w : Arrival) {before mid : List ℕ} {s : Settled} {t' : List Slot} (p : Settles (processed_of t w) (settle_most (length t)) before w.at s t' mid) where
  -- where it waits, the place is the first one
  waits-at : number s.answer ≡ wait_parent → s.at ≡ w.at
  waits-at e = wrote_nothing (processed-waits t w (sym p.answer ∙ e)) p.bytes

  pub ask-room : w.at + settle_most (length t) ≤ length before → length mid ≡ length before → RoomToAsk s (length mid)
  ask-room h same e = omega (arith, waits-at e)

  pub ask-done : {r : Settled} {after : List ℕ} → Asks w s mid r after → Settles (asking w (processed_of t w)) (settle_most (length t)) before w.at r t' after
  ask-done {r} {after} q =
      let all = wrote_then p.bytes q.bytes in
      record {
        answer = ap number q.answer ∙ p.answer;
        last = ap (λ (x : Round). x.0) q.last ∙ p.last;
        slots = p.slots;
        bytes = rw (← p.answer) (record { place = all.place; stored = all.stored; room = room });
      }
    where
      room : r.at ≤ w.at + settle_most (length t)
      room =
          by_cases (eqb (number s.answer) wait_parent)
          (λ e. omega (arith, q.bytes.room, waits-at (eqb-true _ _ e)))
          (λ e. omega (arith, p.bytes.room, wrote_nothing (wait-none w (number s.answer) e) q.bytes))

-- ---- what a caller asks of a settlement

module _ (t : List Slot) (w : Work) where
  pub settled-nothing : w.task ≡ Nothing → settled_of t w ≡ answered 0 t w.last.0 []
  unfolding settled_of
  settled-nothing e = rw e

  pub settled-clear : w.task ≡ Clear → settled_of t w ≡ answered 0 (cleared t) w.last.0 []
  unfolding settled_of
  settled-clear e = rw e

module _ (t : List Slot) (w : Arrival) where
  pub settled-block : settled_of t (brought w) ≡ asking w (processed_of t w)
  unfolding settled_of
  settled-block = refl

  -- a block whose ancestor is absent, one that finds no place, and one that is stored
  pub processed-short : (found_number (ancestors_of t w.block) ≡ 0 → ⊥)
      → processed_of t w ≡ answered (found_number (ancestors_of t w.block)) t w.last.0 []
  processed-short n = processed-is t w ∙ rw (ne_eqb _ _ n)

  module _ (z : found_number (ancestors_of t w.block) ≡ 0) where
    pub processed-full : length t ≤ place_of t w.block → processed_of t w ≡ answered table_full t w.last.0 []
    processed-full h = processed-is t w ∙ rw (z, le-ltb _ _ h)

    pub processed-stored : place_of t w.block < length t
        → processed_of t w ≡ linked_of (stored t w.block) w.block (b0_of t w.block) (b1_of t w.block) w.last.0
    processed-stored h = processed-is t w ∙ rw (z, lt-ltb _ _ h)

  -- what the event gives then: SYNC only where the parent is absent
  pub settled-short : (found_number (ancestors_of t w.block) ≡ 0 → ⊥)
      → settled_of t (brought w) ≡ answered (found_number (ancestors_of t w.block)) t w.last.0 (wait_of w (found_number (ancestors_of t w.block)))
  settled-short n = settled-block ∙ ap (asking w) (processed-short n)

  pub settled-full : found_number (ancestors_of t w.block) ≡ 0 → length t ≤ place_of t w.block → settled_of t (brought w) ≡ answered table_full t w.last.0 []
  unfolding wait_of
  settled-full z h = settled-block ∙ ap (asking w) (processed-full z h)

  pub settled-stored : found_number (ancestors_of t w.block) ≡ 0 → place_of t w.block < length t
      → settled_of t (brought w) ≡ linked_of (stored t w.block) w.block (b0_of t w.block) (b1_of t w.block) w.last.0
  settled-stored z h =
      settled-block ∙ ap (asking w) (processed-stored z h)
      ∙ asking-linked w (stored t w.block) w.block (b0_of t w.block) (b1_of t w.block) w.last.0

-- ---- an event, as code comes by it

module _ (t : List Slot) (w : Work) where
  pub settle-store : {b : Slot} {author : Place} {r : Settled} {t' : List Slot} {before after : List ℕ} → w.task ≡ Store b author
      → Settles (settled_by t w (Store b author)) (settle_most (length t)) before w.at r t' after → Settles (settled_of t w) (settle_most (length t)) before w.at r t' after
  unfolding settled_of
  settle-store y p = rw y p

module _ (t : List Slot) (w : Work) (before : List ℕ) where
  pub settle-clear : {t' : List Slot} → w.task ≡ Clear → t' ≡ cleared t
      → Settles (settled_of t w) (settle_most (length t)) before w.at (record { answer = Ok tt; last = w.last; at = w.at }) t' before
  settle-clear y p = rw (settled-clear t w y) (record { answer = refl; last = refl; slots = p; bytes = wrote_none (settle_most (length t)) before w.at })

  pub settle-idle : w.task ≡ Nothing → Settles (settled_of t w) (settle_most (length t)) before w.at (record { answer = Ok tt; last = w.last; at = w.at }) t before
  settle-idle y = rw (settled-nothing t w y) (record { answer = refl; last = refl; slots = refl; bytes = wrote_none (settle_most (length t)) before w.at })

-- the table is as long as before
linked-length : (t : List Slot) (b b0 b1 : Slot) (last : ℕ) → (linked_of t b b0 b1 last).table ≡ t
unfolding linked_of
linked-length t b b0 b1 last = refl

processed-length : (t : List Slot) (w : Arrival) → length (processed_of t w).table ≡ length t
processed-length t w =
    rw (processed-is t w)
    (by_cases (eqb (found_number (ancestors_of t w.block)) 0)
    (λ f. by_cases (ltb (place_of t w.block) (length t))
    (λ g. rw (f, g, linked-length) (stored-length t w.block))
    (λ g. rw (f, g)))
    (λ f. rw f))

by-length : (t : List Slot) (w : Work) (k : Task) → length (settled_by t w k).table ≡ length t
by-length t w Nothing = refl
by-length t w Clear = cleared-length t
by-length t w (Store b author) = processed-length t (record { block = b; author = author; last = w.last; at = w.at })

pub settled-length : (t : List Slot) (w : Work) → length (settled_of t w).table ≡ length t
unfolding settled_of
settled-length t w = by-length t w w.task

-- the outcome is determined
pub settles-unique : {d : Settlement} {k l at : ℕ} {before : List ℕ} {r r' : Settled} {t t' : List Slot} {after after' : List ℕ}
    → Settles d k before at r t after → Settles d l before at r' t' after' → (r ≡ r') × ((t ≡ t') × (after ≡ after'))
settles-unique {r = r} {r' = r'} p q =
    let a : r.answer ≡ r'.answer = number-same r.answer r'.answer (p.answer ∙ sym q.answer) in
    let l : r.last.0 ≡ r'.last.0 = p.last ∙ sym q.last in
    let m : r.at ≡ r'.at = p.bytes.place ∙ sym q.bytes.place in
    (λ i. record { answer = a i; last = record { 0 = l i }; at = m i }, (p.slots ∙ sym q.slots, p.bytes.stored ∙ sym q.bytes.stored))

-- the place to write at does not matter
module _ (t : List Slot) where
  processed-anywhere : (w : Arrival) (at : ℕ) (f : Result Ancestors Refusal)
      → processed_by t w f ≡ processed_by t (record { block = w.block; author = w.author; last = w.last; at = at }) f
  unfolding processed_by
  processed-anywhere w at (Ok a) = refl
  processed-anywhere w at (Err r) = refl

  pub settled-anywhere : (task : Task) (last : Round) (at at' : ℕ)
      → settled_of t (record { task = task; last = last; at = at }) ≡ settled_of t (record { task = task; last = last; at = at' })
  unfolding settled_of wait_of
  settled-anywhere Nothing last at at' = refl
  settled-anywhere Clear last at at' = refl
  settled-anywhere (Store b author) last at at' =
      ap (asking (record { block = b; author = author; last = last; at = at' }))
      (processed-anywhere (record { block = b; author = author; last = last; at = at }) at' (ancestors_of t b))

-- without a block nothing is written
silent : (t : List Slot) (w : Work) (k : Task) → is_store k ≡ false → (settled_by t w k).outs ≡ []
silent t w Nothing h = refl
silent t w Clear h = refl
silent t w (Store b author) h = absurd (true≢false h)

pub settled-silent : (t : List Slot) (w : Work) → is_store w.task ≡ false → (settled_of t w).outs ≡ []
unfolding settled_of
settled-silent t w h = silent t w w.task h
