-- What LOOPBACK and PROPOSE keep, sign and deliver. Assumes nothing but memory of the right sizes, and a quorum at most 1 above the total.
--     Settled b t low p         a settlement p of the block b over the table t
--     settled-for               `settled_for`
--     deliveries-rising         the rounds of what is delivered rise strictly from above the old last committed round to the new one
--     taken-high                a QC that was taken is not above the high QC
--     Treats total b q t t' s a     an event with the block b
--     treats-processed, treats-proposed      LOOPBACK, PROPOSE
--     lawful-treats             an event with a block is lawful
use Prim.Native.Nat.{ℕ, suc, ◌+◌, ◌≤◌, ◌<◌}
use mathlib.Core.Bool.{Bool, true, false, cond}
use mathlib.Core.List.{List, [], ◌∷◌, ◌++◌, map, append-nil}
use mathlib.Core.Logic.{inl, inr}
use mathlib.Core.Path.{◌≡◌, refl, ◌∙◌, ap}
use native.Mathlib.Nat.{le_refl, le_trans}
use native.Mathlib.Omega.{arith}
use borrow.Author.Tests.{ltb-true, ltb-false, eqb-true, lt-ltb}
use lib.Dec.{ltb, eqb}
use lib.ListN.{length}
use Rattle.certificates.specs.Error.{wait_parent, table_full}
use Rattle.certificates.specs.declared.messages.QC.{QC}
use Rattle.certificates.specs.Config.{quorum_of}
use Rattle.trace.specs.declared.events.Block.{Block}
use Rattle.outputs.specs.Records.{Rec, sync, clean_proposer, clean_mempool}
use Rattle.aggregator.specs.Tallies.{votes_length, timeouts_length}
use Rattle.synchronizer.specs.declared.table.Slot.{Slot}
use Rattle.synchronizer.specs.declared.settle.Arrival.{Arrival}
use Rattle.synchronizer.specs.Table.{place_of, stored, b0_of, b1_of, ancestors_of, found_number}
use Rattle.synchronizer.specs.Walk.{Walk, refused as stopped, delivers, walk_of, committed_by, commit_of, no_commit}
use Rattle.synchronizer.specs.Settle.{Settlement, answered, is_two_chain, clean_of, commit_if, commit_rec, linked_of, processed_of, wait_of, asking}
use Rattle.synchronizer.proofs.WalkLaws.{Rising, commit-rising}
use Rattle.synchronizer.proofs.SettleLaws.{processed-is, settled-block}
use Rattle.moves.specs.declared.state.Core.{Core}
use Rattle.moves.specs.State.{State, with_committed, with_high}
use Rattle.moves.specs.Outcome.{Step, Outcome, done, after}
use Rattle.moves.specs.Moves.{advanced, raised, taken_qc}
use Rattle.moves.specs.Tallied.{qc_of}
use Rattle.moves.proofs.MoveLaws.{Keeps, taken-keeps, taken_is}
use Rattle.handlers.specs.Sound.{signers_of}
use Rattle.handlers.specs.Votes.{voting}
use Rattle.handlers.specs.Proposals.{qc_found, taken, proposal_of}
use Rattle.handlers.proofs.ProposalTheorems.{proposal-goes-on, proposal-keeps, advanced-tc-keeps}
use Rattle.replica.specs.Blocks.{slot_for, arrival_for, settled_for, settled_step, after_settled, processed, processed_table, going_on, going_on_table}
use Rattle.runs.specs.Runs.{only, is_signed, is_commit, signed_in, delivered_in}
use Rattle.runs.proofs.Lists.{only-append}
use Rattle.runs.proofs.Plain.{round_in, high_in, Silent, Plain, silent-none, plain-proposal}
use Rattle.runs.proofs.Lawful.{voted_in, committed_in, Stays, Signs, nothing, ballot, Deliveries, none, some, Delivers, Stores, Lawful, stays-keeps, stays_then, stays-core, lawful-plain}
use Rattle.runs.proofs.Voting.{Casts, skips, casts, Votes, votes-voting}

-- ---- what the table of blocks gives

pub record Settled (b : Slot) (t : List Slot) (low : ℕ) (p : Settlement) : Type 0 where
  pub signs : signed_in p.outs ≡ []
  pub blocks : List Slot
  pub are : delivered_in p.outs ≡ map commit_rec blocks
  pub by : Deliveries b t p.table low blocks p.last
  pub stores : Stores b t p.table

settled-none : (n : ℕ) (b : Slot) (t : List Slot) (low : ℕ) (outs : List Rec) → Silent outs → Settled b t low (answered n t low outs)
settled-none n b t low outs h = record { signs = h.signs; blocks = []; are = h.delivers; by = none refl refl; stores = inl refl }

commits-signed : (bs : List Slot) → signed_in (map commit_rec bs) ≡ []
unfolding only
commits-signed [] = refl
commits-signed (b ∷ bs) = commits-signed bs

commits-delivered : (bs : List Slot) → delivered_in (map commit_rec bs) ≡ map commit_rec bs
unfolding only
commits-delivered [] = refl
commits-delivered (b ∷ bs) = ap (λ (l : List Rec). commit_rec b ∷ l) (commits-delivered bs)

silent-clean : (b0 b1 b : Slot) → Silent (clean_of b0 b1 b)
unfolding clean_of only
silent-clean b0 b1 b = cases (is_two_chain b0 b1)
  where
    cases : (t : Bool) → Silent (clean_proposer b0.digest b1.digest b.digest ∷ cond t (clean_mempool b0.round.0 ∷ []) [])
    cases true = record { signs = refl; delivers = refl }
    cases false = record { signs = refl; delivers = refl }

silent-wait : (w : Arrival) (n : ℕ) → Silent (wait_of w n)
unfolding wait_of only
silent-wait w n = cases (eqb n wait_parent)
  where
    cases : (t : Bool) → Silent (cond t (sync w.block.parent w.block.digest w.author.0 ∷ []) [])
    cases true = record { signs = refl; delivers = refl }
    cases false = record { signs = refl; delivers = refl }

-- a commit of b0 over the table t'
module _ (b : Slot) (t t' : List Slot) (low : ℕ) (found : found_number (ancestors_of t b) ≡ 0) where
  abbrev b0 : Slot
  b0 = b0_of t b

  abbrev b1 : Slot
  b1 = b1_of t b

  by-walk : b0.round.0 + 1 ≡ b1.round.0 → low < b0.round.0 → (w : Walk) → walk_of t' b0 low ≡ w
      → Deliveries b t t' low (committed_by b0 low w).blocks (committed_by b0 low w).last
  by-walk e h (stopped n) f = none refl refl
  by-walk e h (delivers bs) f = some (record { found = found; next = e; newer = h; walk = f; last = refl })

  by-newer : b0.round.0 + 1 ≡ b1.round.0 → (u : Bool) → ltb low b0.round.0 ≡ u
      → Deliveries b t t' low (cond u (committed_by b0 low (walk_of t' b0 low)) (no_commit low)).blocks (cond u (committed_by b0 low (walk_of t' b0 low)) (no_commit low)).last
  by-newer e true h = by-walk e (ltb-true _ _ h) (walk_of t' b0 low) refl
  by-newer e false h = none refl refl

  by_chain : (u : Bool) → is_two_chain b0 b1 ≡ u → Deliveries b t t' low (cond u (commit_of t' b0 low) (no_commit low)).blocks (cond u (commit_of t' b0 low) (no_commit low)).last
  unfolding is_two_chain commit_of
  by_chain true e = by-newer (eqb-true _ _ e) (ltb low b0.round.0) refl
  by_chain false e = none refl refl

  commit-if : Deliveries b t t' low (commit_if t' b0 b1 low).blocks (commit_if t' b0 b1 low).last
  unfolding commit_if
  commit-if = by_chain (is_two_chain b0 b1) refl

settled-linked : (t : List Slot) (b : Slot) (low : ℕ) → found_number (ancestors_of t b) ≡ 0 → Settled b t low (linked_of (stored t b) b (b0_of t b) (b1_of t b) low)
unfolding linked_of
settled-linked t b low found =
    let bs = (commit_if (stored t b) (b0_of t b) (b1_of t b) low).blocks in
    let clean = clean_of (b0_of t b) (b1_of t b) b in
    let c = silent-clean (b0_of t b) (b1_of t b) b in
    record {
      signs = only-append is_signed clean (map commit_rec bs) ∙ rw c.signs (commits-signed bs);
      blocks = bs;
      are = only-append is_commit clean (map commit_rec bs) ∙ rw c.delivers (commits-delivered bs);
      by = commit-if b t (stored t b) low found;
      stores = inr (refl, found);
    }

settled-by : (t : List Slot) (w : Arrival) → Settled w.block t w.last.0 (processed_of t w)
settled-by t w = rw (processed-is t w) (cases (eqb (found_number (ancestors_of t w.block)) 0) refl (ltb (place_of t w.block) (length t)))
  where
    cases : (u : Bool) → eqb (found_number (ancestors_of t w.block)) 0 ≡ u → (v : Bool) → Settled w.block t w.last.0
        (cond u (cond v (linked_of (stored t w.block) w.block (b0_of t w.block) (b1_of t w.block) w.last.0) (answered table_full t w.last.0 []))
        (answered (found_number (ancestors_of t w.block)) t w.last.0 []))
    cases true e true = settled-linked t w.block w.last.0 (eqb-true _ _ e)
    cases true e false = settled-none table_full w.block t w.last.0 [] silent-none
    cases false e v = settled-none (found_number (ancestors_of t w.block)) w.block t w.last.0 [] silent-none

-- SYNC neither signs nor delivers
settled-asking : (w : Arrival) (t : List Slot) (p : Settlement) → Settled w.block t w.last.0 p → Settled w.block t w.last.0 (asking w p)
settled-asking w t p h =
    let c = silent-wait w p.answer in
    record {
      signs = only-append is_signed p.outs (wait_of w p.answer) ∙ rw (h.signs, c.signs);
      blocks = h.blocks;
      are = only-append is_commit p.outs (wait_of w p.answer) ∙ rw c.delivers (append-nil _ ∙ h.are);
      by = h.by;
      stores = h.stores;
    }

pub settled-for : (s : State) (t : List Slot) (b : Block) → Settled (slot_for b) t (committed_in s.core) (settled_for s t b)
unfolding settled_for
settled-for s t b =
    let w = arrival_for b s.core.last_committed_round 0 in
    rw (settled-block t w) (settled-asking w t (processed_of t w) (settled-by t w))

-- ---- what is delivered

pub commit-of : (b0 : Slot) (t : List Slot) (low : ℕ) (blocks : List Slot) → low < b0.round.0 → walk_of t b0 low ≡ delivers blocks
    → commit_of t b0 low ≡ record { answer = 0; last = b0.round.0; blocks = blocks }
unfolding commit_of
commit-of b0 t low blocks h e = rw (lt-ltb _ _ h, e)

-- the rounds rise strictly, from above the old last committed round to the new one
pub deliveries-rising : {b : Slot} {t t' blocks : List Slot} {low high : ℕ} → Deliveries b t t' low blocks high → Rising low blocks high
unfolding Rising
deliveries-rising (none e f) = rw (e, f) refl
deliveries-rising {b} {t} {t'} {blocks} {low} (some k) =
    let e = commit-of (b0_of t b) t' low blocks k.newer k.walk in
    rw k.last (rw e at (commit-rising t' (b0_of t b) low))

-- ---- LOOPBACK and PROPOSE

-- a QC that was taken is not above the high QC
raised-high : (c : Core) (q : QC) → q.round.0 ≤ high_in (raised c q)
unfolding raised
raised-high c q = cases (ltb (high_in c) q.round.0) refl
  where
    cases : (u : Bool) → ltb (high_in c) q.round.0 ≡ u → q.round.0 ≤ high_in (cond u (with_high c q) c)
    cases true e = le_refl _
    cases false e = ltb-false _ _ e

pub taken-high : (s : State) (q : QC) → q.round.0 ≤ high_in (taken_qc s q).state.core
taken-high s q = rw (taken_is s q) (raised-high (advanced s q.round.0).state.core q)

-- so is the QC of a proposal that goes on
proposal-high : (m : List ℕ) (s : State) (b : Block) (r : List ℕ) (payload : ℕ) → length s.votes ≡ votes_length → length s.timeouts ≡ timeouts_length
    → (proposal_of m s b r payload).goes_on ≡ true → b.qc_round.0 ≤ high_in (proposal_of m s b r payload).out.left.state.core
unfolding taken
proposal-high m s b r payload long wide e =
    let q = qc_of b.qc_hash b.qc_round.0 (signers_of (qc_found m r)) in
    let k = taken-keeps 0 s long wide q in
    rw (proposal-goes-on m s b r payload e)
    (le_trans (taken-high s q) (advanced-tc-keeps 0 (taken_qc s q).state (k.votes ∙ long) (k.timeouts ∙ wide) b).high)

pub record Treats (total : ℕ) (b : Block) (q : ℕ) (t t' : List Slot) (s : State) (a : Step) : Type 0 where
  pub stays : Stays total s a.state
  pub casts : Casts b q s.core a
  pub delivers : Delivers (slot_for b) t t' (committed_in s.core) a
  pub stores : Stores (slot_for b) t t'
  pub below : high_in s.core < round_in s.core → high_in a.state.core < round_in a.state.core
  pub within : voted_in s.core ≤ round_in s.core → voted_in a.state.core ≤ round_in a.state.core

-- records that sign nothing, in front
module _ {b : Block} {q : ℕ} {c : Core} (a x : Step) (e : signed_in a.outs ≡ []) (v : voted_in a.state.core ≡ voted_in c) (h : high_in c ≤ high_in a.state.core) (n : round_in c ≤ round_in a.state.core)
    (l : high_in c < round_in c → high_in a.state.core < round_in a.state.core) where
  casts-after : Casts b q a.state.core x → Casts b q c (record { state = x.state; outs = a.outs ++ x.outs })
  casts-after (skips f w) = skips (only-append is_signed a.outs x.outs ∙ rw (e, f)) (w ∙ v)
  casts-after (casts k) =
      casts
      (record {
        to = k.to;
        is = only-append is_signed a.outs x.outs ∙ rw (e, k.is);
        newer = rw v at k.newer;
        rule = k.rule;
        now = k.now;
        at = k.at;
        current = k.current;
        passed = le_trans n k.passed;
        before = le_trans h k.before;
        after = k.after;
        below = λ u. k.below (l u);
        took = k.took;
      })

module _ (total : ℕ) (b : Block) (q : ℕ) (t : List Slot) (s : State) (p : Settlement) (h : Settled (slot_for b) t (committed_in s.core) p) where
  treats-settled : Treats total b q t p.table s (settled_step s p)
  treats-settled =
      record {
        stays = stays-core total s (with_committed s.core p.last) refl refl;
        casts = skips h.signs refl;
        delivers = record { blocks = h.blocks; are = h.are; by = h.by };
        stores = h.stores;
        below = λ k. k;
        within = λ k. k;
      }

  -- and then the vote
  treats-votes : (x : Step) → Votes total b q (settled_step s p).state x → Treats total b q t p.table s (record { state = x.state; outs = p.outs ++ x.outs })
  treats-votes x v =
      record {
        stays = stays_then (stays-core total s (with_committed s.core p.last) refl refl) v.stays;
        casts = casts-after (settled_step s p) x h.signs refl (le_refl _) (le_refl _) (λ k. k) v.casts;
        delivers =
            record {
              blocks = h.blocks;
              are = only-append is_commit p.outs x.outs ∙ rw v.delivers (append-nil _ ∙ h.are);
              by = rw v.committed h.by;
            };
        stores = h.stores;
        below = v.below;
        within = v.within;
      }

module _ (total : ℕ) (m : List ℕ) (own : ℕ) (low : quorum_of m ≤ suc total) (b : Block) (t : List Slot) where
  pub treats-processed : (q : ℕ) (s : State) → q ≤ high_in s.core → length s.votes ≡ votes_length → length s.timeouts ≡ timeouts_length
      → Treats total b q t (processed_table t b s) s (processed m own t b s).left
  unfolding processed processed_table after_settled
  treats-processed q s u long wide = cases (eqb (settled_for s t b).answer 0)
    where
      cases : (v : Bool) → Treats total b q t (settled_for s t b).table s
          (cond v (after (settled_step s (settled_for s t b)) (voting m own b)) (done (settled_for s t b).answer (settled_step s (settled_for s t b)))).left
      cases true =
          treats-votes total b q t s (settled_for s t b) (settled-for s t b) (voting m own b (settled_step s (settled_for s t b)).state).left
          (votes-voting total m own low b q (settled_step s (settled_for s t b)).state u long wide)
      cases false = treats-settled total b q t s (settled_for s t b) (settled-for s t b)

  -- what votes for nothing and commits nothing, in front
  treats-after : (q : ℕ) (t' : List Slot) (s : State) (a x : Step) → Keeps total s a.state → Plain s.core a → Treats total b q t t' a.state x
      → Treats total b q t t' s (record { state = x.state; outs = a.outs ++ x.outs })
  treats-after q t' s a x k p h =
      let same : voted_in a.state.core ≡ voted_in s.core = ap (λ r. r.0) k.voted in
      let last : committed_in a.state.core ≡ committed_in s.core = ap (λ r. r.0) k.committed in
      record {
        stays = stays_then (stays-keeps k) h.stays;
        casts = casts-after a x p.silent.signs same k.high k.round p.below h.casts;
        delivers =
            record {
              blocks = h.delivers.blocks;
              are = only-append is_commit a.outs x.outs ∙ rw p.silent.delivers h.delivers.are;
              by = rw last at h.delivers.by;
            };
        stores = h.stores;
        below = λ u. h.below (p.below u);
        within = λ u. h.within (omega (arith, k.round));
      }

  treats-plain : (q : ℕ) (s : State) (a : Step) → Keeps total s a.state → Plain s.core a → Treats total b q t t s a
  treats-plain q s a k p =
      let l = lawful-plain b q t k p in
      record {
        stays = l.stays;
        casts = skips p.silent.signs (ap (λ r. r.0) k.voted);
        delivers = l.delivers;
        stores = l.stores;
        below = l.below;
        within = l.within;
      }

  pub treats-proposed : (s : State) → length s.votes ≡ votes_length → length s.timeouts ≡ timeouts_length → (r : List ℕ) (payload : ℕ)
      → Treats total b b.qc_round.0 t (going_on_table t b (proposal_of m s b r payload)) s (going_on m own t b (proposal_of m s b r payload)).left
  unfolding going_on going_on_table
  treats-proposed s long wide r payload =
      cases (proposal_of m s b r payload).goes_on (proposal_of m s b r payload).out (proposal-keeps total s long wide m b r payload) (plain-proposal m s b r payload)
      (λ e. proposal-high m s b r payload long wide e)
    where
      cases : (u : Bool) (o : Outcome) → Keeps total s o.left.state → Plain s.core o.left → (u ≡ true → b.qc_round.0 ≤ high_in o.left.state.core)
          → Treats total b b.qc_round.0 t (cond u (processed_table t b o.left.state) t) s (cond u (after o.left (processed m own t b)) o).left
      cases true o k p h =
          treats-after b.qc_round.0 (processed_table t b o.left.state) s o.left (processed m own t b o.left.state).left k p
          (treats-processed b.qc_round.0 o.left.state (h refl) (k.votes ∙ long) (k.timeouts ∙ wide))
      cases false o k p h = treats-plain b.qc_round.0 s o.left k p

signs-casts : {b : Block} {q : ℕ} {c : Core} {a : Step} → Casts b q c a → Signs b q c a
signs-casts (skips e v) = nothing e v
signs-casts (casts k) = ballot k

pub lawful-treats : {total : ℕ} {b : Block} {q : ℕ} {t t' : List Slot} {s : State} {a : Step} → Treats total b q t t' s a → Lawful total b q t t' s a
lawful-treats h = record { stays = h.stays; signs = signs-casts h.casts; delivers = h.delivers; stores = h.stores; below = h.below; within = h.within }
