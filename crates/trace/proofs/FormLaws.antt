-- What a caller knows of a record by its form.
--     formed s k                                   all of it: bounds, kind, length, verdicts and flags, for a record that has the form of the kind k
--     form-bounds s                                2 to the most bytes, for a record that has a form
--     start-size, vote-size, timeout-size, tc-size, propose-size, loopback-size      how long the record is
--     timeout-qc-whole, tc-event-whole             the certificate lies in the record whole, as long as its count says
--     propose-qc-whole, propose-tc-whole, loopback-qc-whole, loopback-tc-whole       the same of a block's
--     vote-verdict-le, timeout-verdict-le, propose-verdict-le, payload-le            a verdict is 0 or 1, the payload verdict 0, 1 or 2
--     tc-after-flag, end-with-tc, end-plain, flag-in-block                           the places of a block
-- Assumes nothing.
use mathlib.Core.Path.{◌≡◌, refl, sym}
use mathlib.Core.Bool.{Bool, true, false, not, cond}
use mathlib.Core.List.{List, []}
use Rattle.std.specs.Prelude.{Option, Some, None}
use Prim.Native.Nat.{ℕ, ◌+◌, ◌*◌, ◌≤◌, ◌<◌}
use native.Mathlib.Omega.{arith}
use lib.ListN.{length, get_or}
use lib.Dec.{ltb, eqb}
use borrow.Author.Tests.{ltb-false, eqb-true, eqb-false, eq-eqb, ne_eqb}
use Rattle.certificates.specs.Num.{num_at}
use Rattle.trace.specs.Record.{record_max}
use Rattle.trace.specs.Layout.{qc_size, qc_part, tc_size, tc_part, block_qc, timeout_qc, tc_body, flag_at, tc_at, block_end, payload_of}
use Rattle.trace.specs.Form.{kind_of, size_of, marks_of, payloads_of, any_above, block_marks, is_formed, form_if, form_of}
use Rattle.trace.specs.Fields.{vote_of, timeout_of, block_of}
use Rattle.trace.specs.declared.events.BlockTc.{BlockTc}
use Rattle.trace.proofs.FieldLaws.{block-tc-at, block-tc-some}
use Rattle.trace.specs.declared.events.Kind.{Kind}
use Rattle.trace.specs.declared.events.Kind.TheVariants.{Start, Propose, Vote, Timeout, Tc, Loopback}
use Rattle.trace.proofs.Bounds.{none_above}
use Rattle.trace.proofs.PartLaws.{qc-part-count, qc-part-length, tc-part-count, tc-part-length}

pub record Formed (s : List ℕ) (k : Kind) : Type 0 where
  pub least : 2 ≤ length s
  pub most : length s ≤ record_max
  pub kind-is : kind_of (num_at 2 s 0) ≡ Some k
  pub size : length s ≡ size_of s k
  pub marks : any_above 1 (marks_of s k) ≡ false
  pub payload : any_above 2 (payloads_of s k) ≡ false

-- back from the answer to the tests
record Passed (a b : Bool) (f : Option Kind) (k : Kind) : Type 0 where
  short : a ≡ false
  long : b ≡ false
  form : f ≡ Some k

passed : (a b : Bool) (f : Option Kind) (k : Kind) → cond a None (cond b None f) ≡ Some k → Passed a b f k
passed true b f k e = absurd (cc)
passed false true f k e = absurd (cc)
passed false false f k e = record { short = refl; long = refl; form = e }

formed-if : (s : List ℕ) (k : Kind) (j : Option Kind) → form_if s j ≡ Some k → (j ≡ Some k) × (is_formed s k ≡ true)
formed-if s k None e = absurd (cc)
formed-if s k (Some j) e = tested (is_formed s j) refl e
  where
    tested : (t : Bool) → is_formed s j ≡ t → cond t (Some j) None ≡ Some k → (Some j ≡ Some k) × (is_formed s k ≡ true)
    tested false p q = absurd (cc)
    tested true p q = let i : j ≡ k = cc in (q, rw (← i) p)

record Shaped (a m p : Bool) : Type 0 where
  size : a ≡ true
  marks : m ≡ false
  payload : p ≡ false

shaped : (a m p : Bool) → cond a (cond m false (not p)) false ≡ true → Shaped a m p
shaped false m p e = let w : ◌≡◌ {A = ℕ} 0 1 = cc in absurd (omega arith)
shaped true true p e = let w : ◌≡◌ {A = ℕ} 0 1 = cc in absurd (omega arith)
shaped true false true e = let w : ◌≡◌ {A = ℕ} 0 1 = cc in absurd (omega arith)
shaped true false false e = record { size = refl; marks = refl; payload = refl }

pub formed : (s : List ℕ) (k : Kind) → form_of s ≡ Some k → Formed s k
unfolding form_of is_formed
formed s k e =
    let j : Option Kind = kind_of (num_at 2 s 0) in
    let p = passed (ltb (length s) 2) (ltb record_max (length s)) (form_if s j) k e in
    let g = formed-if s k j p.form in
    let q = shaped (eqb (length s) (size_of s k)) (any_above 1 (marks_of s k)) (any_above 2 (payloads_of s k)) g.1 in
    record {
      least = ltb-false _ _ p.short;
      most = ltb-false _ _ p.long;
      kind-is = g.0;
      size = eqb-true _ _ q.size;
      marks = q.marks;
      payload = q.payload;
    }

-- ---- the places of a block

-- a TC starts after the flag and ends the block
pub tc-after-flag : (s : List ℕ) → (tc_at s ≡ 0 → ⊥) → tc_at s ≡ flag_at s + 1
unfolding tc_at
tc-after-flag s = by_flag (eqb (get_or s (flag_at s) 0) 1)
  where
    by_flag : (b : Bool) → (cond b (flag_at s + 1) 0 ≡ 0 → ⊥) → cond b (flag_at s + 1) 0 ≡ flag_at s + 1
    by_flag true h = refl
    by_flag false h = absurd (h refl)

pub end-with-tc : (s : List ℕ) → (tc_at s ≡ 0 → ⊥) → block_end s ≡ tc_at s + tc_size s (tc_at s)
unfolding block_end
end-with-tc s h = rw (ne_eqb _ _ h)

pub end-plain : (s : List ℕ) → tc_at s ≡ 0 → block_end s ≡ flag_at s + 1
unfolding block_end
end-plain s h = rw (eq-eqb _ _ h)

-- the flag lies in the block
pub flag-in-block : (s : List ℕ) → flag_at s < block_end s
flag-in-block s = by-tc (eqb (tc_at s) 0) refl
  where
    by-tc : (b : Bool) → b ≡ eqb (tc_at s) 0 → flag_at s < block_end s
    by-tc true e = let h = end-plain s (eqb-true _ _ (sym e)) in omega arith
    by-tc false e =
        let n : tc_at s ≡ 0 → ⊥ = eqb-false _ _ (sym e) in
        let h = end-with-tc s n in
        let k = tc-after-flag s n in
        omega arith

-- ---- a certificate that ends in the record is whole

module _ (s : List ℕ) (at : ℕ) where
  pub qc-whole : at + qc_size s at ≤ length s → 43 + 2 * num_at 2 (qc_part s at) 41 ≤ length (qc_part s at)
  qc-whole h = let l = qc-part-length s at h in let e = qc-part-count s at in omega arith

  pub tc-whole : at + tc_size s at ≤ length s → 11 + 10 * num_at 2 (tc_part s at) 9 ≤ length (tc_part s at)
  tc-whole h = let l = tc-part-length s at h in let e = tc-part-count s at in omega arith

-- a block of at most the record's length
module _ (s : List ℕ) (h : block_end s ≤ length s) where
  block-qc : 43 + 2 * num_at 2 (qc_part s block_qc) 41 ≤ length (qc_part s block_qc)
  unfolding flag_at
  block-qc = qc-whole s block_qc (omega (arith, flag-in-block s))

  block-tc : (tc_at s ≡ 0 → ⊥) → 11 + 10 * num_at 2 (tc_part s (tc_at s)) 9 ≤ length (tc_part s (tc_at s))
  block-tc n = let e = end-with-tc s n in tc-whole s (tc_at s) (omega arith)

module _ (s : List ℕ) where
  pub form-bounds : (form_of s ≡ None → ⊥) → (2 ≤ length s) × (length s ≤ record_max)
  unfolding form_of
  form-bounds h = let p = tests (ltb (length s) 2) (ltb record_max (length s)) _ h in (ltb-false _ _ p.0, ltb-false _ _ p.1)
    where
      tests : (a b : Bool) (f : Option Kind) → (cond a None (cond b None f) ≡ None → ⊥) → (a ≡ false) × (b ≡ false)
      tests true b f h = absurd (h refl)
      tests false true f h = absurd (h refl)
      tests false false f h = (refl, refl)

  module _ (e : form_of s ≡ Some Start) where
    pub start-size : length s ≡ 6 + 36 * num_at 2 s 2
    start-size = (formed s Start e).size

  module _ (e : form_of s ≡ Some Vote) where
    pub vote-size : length s ≡ 45
    vote-size = (formed s Vote e).size

    pub vote-verdict-le : (vote_of s).verdict ≤ 1
    unfolding vote_of
    vote-verdict-le = (none_above 1 _ [] (formed s Vote e).marks).0

  module _ (e : form_of s ≡ Some Timeout) where
    pub timeout-size : length s ≡ timeout_qc + qc_size s timeout_qc
    timeout-size = (formed s Timeout e).size

    pub timeout-qc-whole : 43 + 2 * num_at 2 (qc_part s timeout_qc) 41 ≤ length (qc_part s timeout_qc)
    timeout-qc-whole = let l = timeout-size in qc-whole s timeout_qc (omega arith)

    pub timeout-verdict-le : (timeout_of s).verdict ≤ 1
    unfolding timeout_of
    timeout-verdict-le = (none_above 1 _ _ (formed s Timeout e).marks).0

  module _ (e : form_of s ≡ Some Tc) where
    pub tc-size : length s ≡ tc_body + tc_size s tc_body
    tc-size = (formed s Tc e).size

    pub tc-event-whole : 11 + 10 * num_at 2 (tc_part s tc_body) 9 ≤ length (tc_part s tc_body)
    tc-event-whole = let l = tc-size in tc-whole s tc_body (omega arith)

  block-verdict : any_above 1 (block_marks s) ≡ false → (block_of s).verdict ≤ 1
  unfolding block_marks block_of
  block-verdict e = (none_above 1 _ _ e).0

  module _ (e : form_of s ≡ Some Propose) where
    pub propose-size : length s ≡ block_end s + 1
    propose-size = (formed s Propose e).size

    pub propose-qc-whole : 43 + 2 * num_at 2 (qc_part s block_qc) 41 ≤ length (qc_part s block_qc)
    propose-qc-whole = let l = propose-size in block-qc s (omega arith)

    pub propose-tc-whole : {t : BlockTc} → (block_of s).tc ≡ Some t → 11 + 10 * num_at 2 (tc_part s t.at) 9 ≤ length (tc_part s t.at)
    propose-tc-whole h =
        let l = propose-size in
        let a = block-tc-at s h in
        rw a (block-tc s (omega arith) (rw a at (block-tc-some s h)))

    pub propose-verdict-le : (block_of s).verdict ≤ 1
    propose-verdict-le = block-verdict (formed s Propose e).marks

    pub payload-le : payload_of s ≤ 2
    payload-le = (none_above 2 _ [] (formed s Propose e).payload).0

  module _ (e : form_of s ≡ Some Loopback) where
    pub loopback-size : length s ≡ block_end s
    loopback-size = (formed s Loopback e).size

    pub loopback-qc-whole : 43 + 2 * num_at 2 (qc_part s block_qc) 41 ≤ length (qc_part s block_qc)
    loopback-qc-whole = let l = loopback-size in block-qc s (omega arith)

    pub loopback-tc-whole : {t : BlockTc} → (block_of s).tc ≡ Some t → 11 + 10 * num_at 2 (tc_part s t.at) 9 ≤ length (tc_part s t.at)
    loopback-tc-whole h =
        let l = loopback-size in
        let a = block-tc-at s h in
        rw a (block-tc s (omega arith) (rw a at (block-tc-some s h)))
