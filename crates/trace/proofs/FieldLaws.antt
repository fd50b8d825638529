-- What a caller needs of the fields of an event: each is what lies at its place.
--     vote-hash, vote-round, vote-author, vote-verdict           of `vote_of s`
--     timeout-round, .., timeout-qc-round                        of `timeout_of s`
--     block-digest, .., block-tc-high                            of `block_of s`
-- Assumes nothing.
use mathlib.Core.Path.{◌≡◌, refl, sym, ap, ◌∙◌}
use mathlib.Core.Bool.{Bool, true, false, cond}
use mathlib.Core.List.{List}
use Prim.Native.Nat.{ℕ}
use lib.ListN.{get_or}
use lib.Dec.{eqb}
use borrow.Author.Tests.{eqb-true, eqb-false}
use Rattle.std.specs.Prelude.{None, Some}
use Rattle.certificates.specs.Num.{num_at, hash_at}
use Rattle.trace.specs.Layout.{qc_round, tc_round, tc_part, block_qc, timeout_qc, tc_at, largest_high}
use Rattle.trace.specs.Fields.{vote_of, timeout_of, block_tc_of, block_of}
use Rattle.trace.specs.declared.events.BlockTc.{BlockTc}

module _ (s : List ℕ) where
  pub vote-hash : (vote_of s).hash ≡ hash_at s 2
  unfolding vote_of
  vote-hash = refl

  pub vote-round : (vote_of s).round.0 ≡ num_at 8 s 34
  unfolding vote_of
  vote-round = refl

  pub vote-author : (vote_of s).author.0 ≡ num_at 2 s 42
  unfolding vote_of
  vote-author = refl

  pub vote-verdict : (vote_of s).verdict ≡ get_or s 44 0
  unfolding vote_of
  vote-verdict = refl

  pub timeout-round : (timeout_of s).round.0 ≡ num_at 8 s 2
  unfolding timeout_of
  timeout-round = refl

  pub timeout-author : (timeout_of s).author.0 ≡ num_at 2 s 10
  unfolding timeout_of
  timeout-author = refl

  pub timeout-verdict : (timeout_of s).verdict ≡ get_or s 12 0
  unfolding timeout_of
  timeout-verdict = refl

  pub timeout-qc-hash : (timeout_of s).qc_hash ≡ hash_at s timeout_qc
  unfolding timeout_of
  timeout-qc-hash = refl

  pub timeout-qc-round : (timeout_of s).qc_round.0 ≡ qc_round s timeout_qc
  unfolding timeout_of
  timeout-qc-round = refl

  pub block-digest : (block_of s).digest ≡ hash_at s 2
  unfolding block_of
  block-digest = refl

  pub block-author : (block_of s).author.0 ≡ num_at 2 s 34
  unfolding block_of
  block-author = refl

  pub block-round : (block_of s).round.0 ≡ num_at 8 s 36
  unfolding block_of
  block-round = refl

  pub block-verdict : (block_of s).verdict ≡ get_or s 44 0
  unfolding block_of
  block-verdict = refl

  pub block-qc-hash : (block_of s).qc_hash ≡ hash_at s block_qc
  unfolding block_of
  block-qc-hash = refl

  pub block-qc-round : (block_of s).qc_round.0 ≡ qc_round s block_qc
  unfolding block_of
  block-qc-round = refl

  pub block-tc : (block_of s).tc ≡ block_tc_of s
  unfolding block_of
  block-tc = refl

  abbrev there : BlockTc
  there = record { at = tc_at s; round = record { 0 = tc_round s (tc_at s) }; high = record { 0 = largest_high (tc_part s (tc_at s)) } }

  -- a block without a TC, and one with
  pub block-tc-none : (block_of s).tc ≡ None → tc_at s ≡ 0
  unfolding block_of block_tc_of
  block-tc-none h = cases (eqb (tc_at s) 0) refl h
    where
      cases : (u : Bool) → eqb (tc_at s) 0 ≡ u → cond u None (Some there) ≡ None → tc_at s ≡ 0
      cases true e f = eqb-true _ 0 e
      cases false e f = absurd (cc)

  module _ {t : BlockTc} (h : (block_of s).tc ≡ Some t) where
    block-tc-is : (t ≡ there) × (tc_at s ≡ 0 → ⊥)
    unfolding block_of block_tc_of
    block-tc-is = cases (eqb (tc_at s) 0) refl h
      where
        cases : (u : Bool) → eqb (tc_at s) 0 ≡ u → cond u None (Some there) ≡ Some t → (t ≡ there) × (tc_at s ≡ 0 → ⊥)
        cases true e f = absurd (cc)
        cases false e f = (cc, eqb-false _ 0 e)

    pub block-tc-at : t.at ≡ tc_at s
    block-tc-at = ap (λ (x : BlockTc). x.at) block-tc-is.0

    pub block-tc-some : t.at ≡ 0 → ⊥
    block-tc-some e = block-tc-is.1 (sym block-tc-at ∙ e)

    pub block-tc-round : t.round.0 ≡ tc_round s t.at
    block-tc-round = rw block-tc-is.0 refl

    pub block-tc-high : t.high.0 ≡ largest_high (tc_part s t.at)
    block-tc-high = rw block-tc-is.0 refl
