-- What a caller knows of a record whose limit is 0: no list is too long, no round too high.
--     limits s k                                                                     all of it
--     loopback-limit                                                                 a LOOPBACK within its limits is a block within them
--     vote-round-le, timeout-round-le, timeout-qc-round-le                           each round that an event's fields name
--     block-round-le, block-qc-round-le, block-tc-round-le, block-tc-high-le         the same of a block, by PROPOSE's limit
--     tc-event-round-le, tc-event-high-le, tc-event-highs-le                         the same of a TC event, and each high round by place
--     timeout-qc-count-le, block-qc-count-le, block-tc-count-le, tc-event-count-le   each count
--     loopback-tc-full                                                               a LOOPBACK's TC is not empty
-- Assumes nothing.
use mathlib.Core.Path.{◌≡◌, refl}
use mathlib.Core.Bool.{Bool, true, false, cond}
use mathlib.Core.List.{List, []}
use Prim.Native.Nat.{ℕ, ◌≤◌}
use native.Mathlib.Omega.{arith}
use lib.ListN.{get_or}
use lib.Dec.{eqb}
use borrow.Author.Tests.{ne_eqb, eqb-false}
use Rattle.certificates.specs.Numbers.{round_max}
use Rattle.trace.specs.Layout.{signers_max, qc_count, tc_round, tc_count, tc_part, tc_rounds, block_qc, timeout_qc, tc_body, tc_at, largest_high, highs_of}
use Rattle.trace.specs.Form.{any_above}
use Rattle.trace.specs.Limits.{counts_of, rounds_of, block_counts, block_rounds, empty_tc, limit_of}
use Rattle.trace.specs.Fields.{vote_of, timeout_of, block_of, TcWithin}
use Rattle.trace.specs.declared.events.BlockTc.{BlockTc}
use Rattle.std.specs.Prelude.{Option, None, Some}
use Rattle.trace.proofs.FieldLaws.{block-tc-at, block-tc-some, block-tc-round, block-tc-high}
use Rattle.trace.specs.declared.events.Kind.{Kind}
use Rattle.trace.specs.declared.events.Kind.TheVariants.{Propose, Vote, Timeout, Tc, Loopback}
use Rattle.trace.proofs.Bounds.{none_above, largest-within}
use Rattle.trace.proofs.PartLaws.{highs-le}

pub record Within (s : List ℕ) (k : Kind) : Type 0 where
  pub full : empty_tc s k ≡ false
  pub counts : any_above signers_max (counts_of s k) ≡ false
  pub rounds : any_above round_max (rounds_of s k) ≡ false

-- back from the answer to the tests
record Passed (a b d : Bool) : Type 0 where
  full : a ≡ false
  counts : b ≡ false
  rounds : d ≡ false

passed : (a b d : Bool) → ◌≡◌ {A = ℕ} (cond a 32 (cond b 20 (cond d 19 0))) 0 → Passed a b d
passed true b d e = absurd (omega arith)
passed false true d e = absurd (omega arith)
passed false false true e = absurd (omega arith)
passed false false false e = record { full = refl; counts = refl; rounds = refl }

pub limits : (s : List ℕ) (k : Kind) → limit_of s k ≡ 0 → Within s k
unfolding limit_of
limits s k e =
    let p = passed (empty_tc s k) (any_above signers_max (counts_of s k)) (any_above round_max (rounds_of s k)) e in
    record { full = p.full; counts = p.counts; rounds = p.rounds }

module _ (s : List ℕ) where
  pub loopback-limit : limit_of s Loopback ≡ 0 → limit_of s Propose ≡ 0
  unfolding limit_of
  loopback-limit e = let w = limits s Loopback e in rw (w.counts, w.rounds)

  module _ (e : limit_of s Vote ≡ 0) where
    pub vote-round-le : (vote_of s).round.0 ≤ round_max
    unfolding vote_of
    vote-round-le = (none_above round_max _ [] (limits s Vote e).rounds).0

  module _ (e : limit_of s Timeout ≡ 0) where
    pub timeout-round-le : (timeout_of s).round.0 ≤ round_max
    unfolding timeout_of
    timeout-round-le = (none_above round_max _ _ (limits s Timeout e).rounds).0

    pub timeout-qc-round-le : (timeout_of s).qc_round.0 ≤ round_max
    unfolding timeout_of
    timeout-qc-round-le = (none_above round_max _ [] (none_above round_max _ _ (limits s Timeout e).rounds).1).0

    pub timeout-qc-count-le : qc_count s timeout_qc ≤ signers_max
    timeout-qc-count-le = (none_above signers_max _ [] (limits s Timeout e).counts).0

  -- ---- the rounds of a TC

  module _ (at : ℕ) (e : any_above round_max (tc_rounds s at) ≡ false) where
    tc-own : tc_round s at ≤ round_max
    unfolding tc_rounds
    tc-own = (none_above round_max _ _ e).0

    tc-high : largest_high (tc_part s at) ≤ round_max
    unfolding tc_rounds largest_high
    tc-high = largest-within round_max _ (none_above round_max _ _ e).1

  module _ (e : limit_of s Tc ≡ 0) where
    pub tc-event-round-le : tc_round s tc_body ≤ round_max
    tc-event-round-le = tc-own tc_body (limits s Tc e).rounds

    pub tc-event-high-le : largest_high (tc_part s tc_body) ≤ round_max
    tc-event-high-le = tc-high tc_body (limits s Tc e).rounds

    pub tc-event-highs-le : (p : ℕ) → get_or (highs_of (tc_part s tc_body)) p 0 ≤ round_max
    tc-event-highs-le p = let h = highs-le (tc_part s tc_body) p in let k = tc-event-high-le in omega arith

    pub tc-event-count-le : tc_count s tc_body ≤ signers_max
    tc-event-count-le = (none_above signers_max _ [] (limits s Tc e).counts).0

  -- ---- a block

  module _ (e : limit_of s Propose ≡ 0) where
    block_within : Within s Propose
    block_within = limits s Propose e

    pub block-round-le : (block_of s).round.0 ≤ round_max
    unfolding block_rounds block_of
    block-round-le = (none_above round_max _ _ block_within.rounds).0

    later : any_above round_max (cond (eqb (tc_at s) 0) [] (tc_rounds s (tc_at s))) ≡ false
    unfolding block_rounds
    later = (none_above round_max _ _ (none_above round_max _ _ block_within.rounds).1).1

    pub block-qc-round-le : (block_of s).qc_round.0 ≤ round_max
    unfolding block_rounds block_of
    block-qc-round-le = (none_above round_max _ _ (none_above round_max _ _ block_within.rounds).1).0

    -- the TC's rounds
    tc-rounds : {t : BlockTc} → (block_of s).tc ≡ Some t → any_above round_max (tc_rounds s t.at) ≡ false
    tc-rounds h =
        let a = block-tc-at s h in
        let n = rw a at (block-tc-some s h) in
        rw a (rw (ne_eqb (tc_at s) 0 n) at later)

    pub block-tc-round-le : TcWithin (block_of s).tc
    block-tc-round-le = cases (block_of s).tc refl
      where
        cases : (o : Option BlockTc) → (block_of s).tc ≡ o → TcWithin o
        cases None h = tt
        cases (Some t) h = rw (block-tc-round s h) (tc-own t.at (tc-rounds h))

    pub block-tc-high-le : {t : BlockTc} → (block_of s).tc ≡ Some t → t.high.0 ≤ round_max
    block-tc-high-le {t} h = rw (block-tc-high s h) (tc-high t.at (tc-rounds h))

    pub block-qc-count-le : qc_count s block_qc ≤ signers_max
    unfolding block_counts
    block-qc-count-le = (none_above signers_max _ _ block_within.counts).0

    pub block-tc-count-le : {t : BlockTc} → (block_of s).tc ≡ Some t → tc_count s t.at ≤ signers_max
    unfolding block_counts
    block-tc-count-le h =
        let a = block-tc-at s h in
        let n = rw a at (block-tc-some s h) in
        rw a (none_above signers_max _ [] (rw (ne_eqb (tc_at s) 0 n) at (none_above signers_max _ _ block_within.counts).1)).0

  module _ (e : limit_of s Loopback ≡ 0) where
    pub loopback-tc-full : {t : BlockTc} → (block_of s).tc ≡ Some t → tc_count s t.at ≡ 0 → ⊥
    loopback-tc-full h =
        let a = block-tc-at s h in
        let n = rw a at (block-tc-some s h) in
        rw a (eqb-false _ _ (rw (ne_eqb (tc_at s) 0 n) at (limits s Loopback e).full))
