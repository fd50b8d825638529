-- The laws of one event, from a world that counts as started: for any bytes, verdicts and tables, with no premise on signatures, hosts or other members.
-- w is the world before the event e, `step_on w e` what it gives. Assumes nothing.
--     stays-started                        it counts as started still
--     members-same, slots_same             count, own place, stakes and the table's length never change
--     table-stores, table-has, table-closed    the table is as it was, or has the event's block stored in it; it stays closed under parents
--     round-rises, high-rises, committed-rises, voted-rises     no round falls
--     high-below, voted-within             the high QC stays below the round, and last voted not above it
--     one_signature, one-signed            at most one VOTE or TIMEOUT, never both
--     vote-new, vote-last                  a VOTE is above last voted, and is the new last voted
--     timeout-kept, timeout-high           a TIMEOUT is not above the new last voted; it names the round and the high QC that the event found
--     vote-block, vote-rule                a VOTE names the event's block, which meets the voting rule
--     vote-current, vote-in-round, propose-high      the high QC and the round when a VOTE is cast
--     commit-new, commits-rise, commit-kept, commit-last, commit-none      the rounds of an event's COMMITs
--     deliveries, deliveries-chain         the blocks of its COMMITs
use Prim.Native.Nat.{ℕ, ◌+◌, ◌≤◌, ◌<◌}
use mathlib.Core.Bool.{true}
use mathlib.Core.List.{List, [], ◌∷◌, ◌++◌}
use mathlib.Core.Logic.{◌⊎◌, inl, inr}
use mathlib.Core.Path.{◌≡◌, refl, sym, ap, ◌∙◌}
use native.Mathlib.Nat.{le_trans}
use native.Mathlib.Omega.{arith}
use lib.ListN.{length, length-append}
use Rattle.std.specs.Prelude.{Some}
use Rattle.certificates.specs.declared.numbers.Hash.{Hash}
use Rattle.certificates.specs.declared.numbers.Stake.{Stake}
use Rattle.certificates.specs.declared.messages.QC.{QC}
use Rattle.trace.specs.declared.events.Kind.{Kind}
use Rattle.trace.specs.declared.events.Block.{Block}
use Rattle.trace.specs.Form.{form_of}
use Rattle.trace.specs.Fields.{block_of}
use Rattle.outputs.specs.Records.{Rec, vote, timeout, commit}
use Rattle.synchronizer.specs.declared.table.Slot.{Slot}
use Rattle.synchronizer.specs.Table.{b0_of}
use Rattle.synchronizer.specs.Walk.{chain_of}
use Rattle.synchronizer.proofs.TableLaws.{ancestors-both}
use Rattle.synchronizer.proofs.WalkLaws.{commit-chain}
use Rattle.synchronizer.proofs.Lookups.{Has, stored-has, Closed, closed-stored}
use Rattle.moves.specs.declared.state.Core.{Core}
use Rattle.moves.specs.Outcome.{Step}
use Rattle.handlers.proofs.VoteTheorems.{ExtendsTC, extends-rule}
use Rattle.replica.specs.Blocks.{slot_for}
use Rattle.replica.specs.Step.{World}
use Rattle.runs.specs.Runs.{Event, step_on, Written, Behind, is_signed, is_commit, signed_in, delivered_in, round_of, voted_of, committed_of, high_of}
use Rattle.runs.proofs.Lists.{written-only, behind-only, written-ordered, written_none, written_one}
use Rattle.runs.proofs.Marks.{Marked, marked-le, marked-above, marked-behind, marked-within, marked-last}
use Rattle.runs.proofs.Lawful.{Ballot, Signs, nothing, ballot, expiry, Deliveries, none, some, Delivers, Stores}
use Rattle.runs.proofs.Blocks.{commit-of}
use Rattle.runs.proofs.Steps.{Started, took_by, step_in, step-lawful, started-again}
use Rattle.runs.proofs.Rounds.{vote_mark, commit_mark, step-voted, step-committed}

-- ---- by what was signed

signed-length : {b : Block} {q : ℕ} {c : Core} {a : Step} → Signs b q c a → length (signed_in a.outs) ≤ 1
signed-length (nothing e v) = rw e (omega arith)
signed-length (ballot k) = rw k.is (omega arith)
signed-length (expiry e v) = rw e (omega arith)

-- in a list of one record none stands behind another
behind-long : {a b : Rec} {rs : List Rec} → length rs ≤ 1 → Behind a b rs → ⊥
behind-long {a} {b} l k = omega (arith, simp (length-append) at (ap length k.is))

module _ {b : Block} {q : ℕ} {c : Core} {a : Step} where
  signed-vote : {to n : ℕ} {h : Hash} → Signs b q c a → Written (vote to h n) (signed_in a.outs) → (h ≡ b.digest) × (n ≡ b.round.0) × Ballot b q c a
  signed-vote (nothing e v) w = absurd (written_none (rw e at w))
  signed-vote {to} {n} {h} (ballot k) w = let same : vote to h n ≡ vote k.to b.digest b.round.0 = written_one (rw k.is at w) in (cc, cc, k)
  signed-vote {to} {n} {h} (expiry e v) w =
      let same : vote to h n ≡ timeout c.round.0 c.high_qc = written_one (rw e at w) in
      let z : ◌≡◌ {A = ℕ} 0 1 = cc in
      absurd (omega arith)

  signed-timeout : {u : ℕ} {h : QC} → Signs b q c a → Written (timeout u h) (signed_in a.outs) → (u ≡ c.round.0) × (h ≡ c.high_qc)
  signed-timeout (nothing e v) w = absurd (written_none (rw e at w))
  signed-timeout {u} {h} (ballot k) w =
      let same : timeout u h ≡ vote k.to b.digest b.round.0 = written_one (rw k.is at w) in
      let z : ◌≡◌ {A = ℕ} 0 1 = cc in
      absurd (omega arith)
  signed-timeout {u} {h} (expiry e v) w = let same : timeout u h ≡ timeout c.round.0 c.high_qc = written_one (rw e at w) in (cc, cc)

-- what is delivered is the chain of the table from the grandparent of the event's block
pub deliveries-chain : {b : Slot} {t t' blocks : List Slot} {low high : ℕ} → Deliveries b t t' low blocks high → blocks ≡ chain_of (length blocks) t' (b0_of t b)
unfolding chain_of
deliveries-chain (none e f) = rw e
deliveries-chain {b} {t} {t'} {blocks} {low} (some k) =
    rw (commit-of (b0_of t b) t' low blocks k.newer k.walk) at (commit-chain t' (b0_of t b) low).0

-- ---- one event

module _ (w : World) (e : Event) (t : Stake) (s : Started w t) where
  -- It counts as started still, so no START is taken after the first.
  pub stays-started : Started (step_on w e).world t
  stays-started = started-again w e t s

  -- Count, own place and stakes never change.
  pub members-same : ((step_on w e).world.seat ≡ w.seat) × ((step_on w e).world.stakes ≡ w.stakes)
  members-same = ((step-lawful w e t s).seat, (step-lawful w e t s).stakes)

  pub slots_same : length (step_on w e).world.table ≡ length w.table
  slots_same = (step-lawful w e t s).slots

  -- The table is as it was, or has the event's block stored in it.
  pub table-stores : Stores (slot_for (block_of e.bytes)) w.table (step_on w e).world.table
  table-stores = (step-lawful w e t s).lawful.stores

  -- What it holds then it held before, or is the event's block.
  pub table-has : (x : Slot) → Has (step_on w e).world.table x → (x ≡ slot_for (block_of e.bytes)) ⊎ Has w.table x
  table-has x h = cases table-stores
    where
      cases : Stores (slot_for (block_of e.bytes)) w.table (step_on w e).world.table → (x ≡ slot_for (block_of e.bytes)) ⊎ Has w.table x
      cases (inl f) = inr (rw f at h)
      cases (inr f) = stored-has w.table (slot_for (block_of e.bytes)) x (rw f.0 at h)

  -- A closed table stays closed: a block is stored only where its parent is.
  pub table-closed : Closed w.table → Closed (step_on w e).world.table
  table-closed c = cases table-stores
    where
      b : Slot
      b = slot_for (block_of e.bytes)

      cases : Stores (slot_for (block_of e.bytes)) w.table (step_on w e).world.table → Closed (step_on w e).world.table
      cases (inl f) = rw f c
      cases (inr f) = rw f.0 (closed-stored w.table b c refl (ancestors-both w.table b f.1).0)

  pub round-rises : round_of w ≤ round_of (step_on w e).world
  round-rises = (step-lawful w e t s).lawful.stays.round

  -- H1
  pub high-rises : high_of w ≤ high_of (step_on w e).world
  high-rises = (step-lawful w e t s).lawful.stays.high

  -- V1
  pub voted-rises : voted_of w ≤ voted_of (step_on w e).world
  voted-rises = marked-le vote_mark _ _ _ (step-voted w e t s)

  pub committed-rises : committed_of w ≤ committed_of (step_on w e).world
  committed-rises = marked-le commit_mark _ _ _ (step-committed w e t s)

  pub high-below : high_of w < round_of w → high_of (step_on w e).world < round_of (step_on w e).world
  high-below = (step-lawful w e t s).lawful.below

  pub voted-within : voted_of w ≤ round_of w → voted_of (step_on w e).world ≤ round_of (step_on w e).world
  voted-within = (step-lawful w e t s).lawful.within

  -- ---- votes and timeouts

  -- At most one VOTE or TIMEOUT leaves an event, never both.
  pub one_signature : length (signed_in (step_on w e).outs) ≤ 1
  one_signature = signed-length (step-lawful w e t s).lawful.signs

  -- Two records of one event that sign something are one.
  pub one-signed : {a b : Rec} → is_signed a ≡ true → is_signed b ≡ true → Written a (step_on w e).outs → Written b (step_on w e).outs → a ≡ b
  one-signed {a} {b} f g u v = cases (written-ordered (written-only is_signed f u) (written-only is_signed g v))
    where
      cases : (a ≡ b) ⊎ (Behind a b (signed_in (step_on w e).outs) ⊎ Behind b a (signed_in (step_on w e).outs)) → a ≡ b
      cases (inl x) = x
      cases (inr (inl k)) = absurd (behind-long one_signature k)
      cases (inr (inr k)) = absurd (behind-long one_signature k)

  module _ {to n : ℕ} {h : Hash} (v : Written (vote to h n) (step_on w e).outs) where
    cast : (h ≡ (block_of e.bytes).digest) × (n ≡ (block_of e.bytes).round.0)
        × Ballot (block_of e.bytes) (took_by (form_of e.bytes) (block_of e.bytes)) w.state.core (step_in (step_on w e))
    cast = signed-vote (step-lawful w e t s).lawful.signs (written-only is_signed refl v)

    -- V2: a VOTE for round n is written only if last voted is below n,
    pub vote-new : voted_of w < n
    vote-new = omega (arith, cast.1, cast.2.newer)

    -- V3: and n is the new last voted.
    pub vote-last : voted_of (step_on w e).world ≡ n
    vote-last = cast.2.now ∙ sym cast.1

    -- It names the block that the event brought.
    pub vote-block : (h ≡ (block_of e.bytes).digest) × (n ≡ (block_of e.bytes).round.0)
    vote-block = (cast.0, cast.1)

    -- Its block's QC is of the round before, or its TC is, with a QC not below the TC's high rounds.
    pub vote-rule : ((block_of e.bytes).qc_round.0 + 1 ≡ (block_of e.bytes).round.0) ⊎ ExtendsTC (block_of e.bytes)
    vote-rule = extends-rule (block_of e.bytes) cast.2.rule

    -- When it is cast, n is the current round, the high QC is below n if it was below the round, and is not above the one that the event leaves.
    pub vote-current : high_of w < round_of w → (high : ℕ) × (high_of w ≤ high) × (high < n) × (high ≤ high_of (step_on w e).world) × (took_by (form_of e.bytes) (block_of e.bytes) ≤ high)
    vote-current l =
        let k = cast.2 in
        (k.at.high_qc.round.0, k.before, omega (arith, k.below l, k.current, cast.1), k.after, k.took)

    -- Its round is not below the round that the event found.
    pub vote-in-round : round_of w ≤ n
    vote-in-round = omega (arith, cast.2.passed, cast.2.current, cast.1)

    -- H3: a VOTE that a PROPOSE brought leaves a high QC not below the block's QC.
    pub propose-high : form_of e.bytes ≡ Some Kind.Propose → (block_of e.bytes).qc_round.0 ≤ high_of (step_on w e).world
    propose-high f =
        let k = cast.2 in
        let u : (block_of e.bytes).qc_round.0 ≤ k.at.high_qc.round.0 = rw f at k.took in
        le_trans u k.after

  module _ {u : ℕ} {q : QC} (v : Written (timeout u q) (step_on w e).outs) where
    -- V4: a TIMEOUT is not above the new last voted.
    pub timeout-kept : u ≤ voted_of (step_on w e).world
    timeout-kept =
        let k = written-only is_signed refl v in
        marked-within vote_mark _ _ k.before k.rest (timeout u q) (rw k.is at (step-voted w e t s))

    -- H2: it names the round and the high QC that the event found.
    pub timeout-high : (u ≡ round_of w) × (q ≡ w.state.core.high_qc)
    timeout-high = signed-timeout (step-lawful w e t s).lawful.signs (written-only is_signed refl v)

  -- ---- deliveries, D1

  -- A COMMIT is above the last committed round,
  pub commit-new : {n : ℕ} {d : Hash} → Written (commit d n) (step_on w e).outs → committed_of w < n
  commit-new {n} {d} v = let k = written-only is_commit refl v in marked-above commit_mark _ _ n k.before k.rest (commit d n) refl (rw k.is at (step-committed w e t s))

  -- and not above the new one.
  pub commit-kept : {n : ℕ} {d : Hash} → Written (commit d n) (step_on w e).outs → n ≤ committed_of (step_on w e).world
  commit-kept {n} {d} v = let k = written-only is_commit refl v in marked-within commit_mark _ _ k.before k.rest (commit d n) (rw k.is at (step-committed w e t s))

  -- Of two COMMITs of one event the one behind has the higher round.
  pub commits-rise : {n n' : ℕ} {d d' : Hash} → Behind (commit d n) (commit d' n') (step_on w e).outs → n < n'
  commits-rise {n} {n'} {d} {d'} v =
      let k = behind-only is_commit refl refl v in
      marked-behind commit_mark _ _ n' k.before k.between k.rest (commit d n) (commit d' n') refl (rw k.is at (step-committed w e t s))

  -- The last COMMIT of an event is of the new last committed round; without a COMMIT that stays.
  pub commit-last : (n : ℕ) (d : Hash) (ds : List Rec) → delivered_in (step_on w e).outs ≡ ds ++ (commit d n ∷ []) → committed_of (step_on w e).world ≡ n
  commit-last n d ds f = marked-last commit_mark _ _ n ds (commit d n) refl (rw f at (step-committed w e t s))

  pub commit-none : delivered_in (step_on w e).outs ≡ [] → committed_of (step_on w e).world ≡ committed_of w
  unfolding Marked
  commit-none f = sym (rw f at (step-committed w e t s))

  -- Which blocks: none, or the walk from the grandparent b0 of the event's block, where b0 and its child are of consecutive rounds.
  pub deliveries : Delivers (slot_for (block_of e.bytes)) w.table (step_on w e).world.table (committed_of w) (step_in (step_on w e))
  deliveries = (step-lawful w e t s).lawful.delivers
