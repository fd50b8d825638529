-- W11, "Two cabinets, one ledger", over courses of the definition: its premises, each with 02's words, and what it claims. `Members` of `runs` has the first of them:
-- one committee, "rule-breakers hold at most a third of the stake", and "every obeying authority votes and times out only through such a run", at its own place.
--     TrueQC, TrueTC M part    the result of a certificate is true
--     Truthful M c        the results that come with the events of the course c are true
--     Came m              the event m brings a block: a PROPOSE that passes its checks, or a LOOPBACK that is taken
--     Named a b           two contents with one digest are one block
--     Held m, Ordered m   where the block of a LOOPBACK comes from
--     Cabinets M          all premises
--     delivered c         the blocks that a course delivers, in order, each as its COMMIT
--     Starts xs ys        xs is the start of ys
--     OneLedger M         of what two members that obey deliver, one is the start of the other
use Rattle.std.specs.Prelude.{ℕ, true, false, List, ◌++◌, ◌⊎◌, ◌≡◌, get_or, Some}
use Rattle.certificates.specs.Num.{num_at}
use Rattle.certificates.specs.Signers.{member}
use Rattle.certificates.specs.Messages.{qc_form, tc_form, verdict_in, places_in, is_genesis, equals_genesis}
use Rattle.trace.specs.declared.events.Kind.{Kind}
use Rattle.trace.specs.declared.events.BlockTc.{BlockTc}
use Rattle.trace.specs.Fields.{vote_of}
use Rattle.trace.specs.Layout.{block_qc, timeout_qc, qc_part, tc_part, highs_of}
use Rattle.outputs.specs.Records.{Rec}
use Rattle.runs.specs.Runs.{Written, delivered_in}
use Rattle.runs.specs.Courses.{Course, outputs, Moment, up_to, event_at, found_at, bytes_at, kind_at, block_at}
use Rattle.runs.specs.Passed.{Passed, Looped}
use Rattle.runs.specs.Signed.{Members, Sits, Signed, Expired, TrueResult}
use Rattle.cabinets.specs.Contents.{Content, content_of, MadeFrom}

-- ---- "Suppose signature results are true"

module _ (M : Members) where
  -- a vote certificate that says yes: whoever it names and obeys signed its hash and round. One that equals genesis is never looked at.
  abbrev pub TrueQC : List ℕ → Type 0
  TrueQC part = equals_genesis part ≡ false → verdict_in qc_form part ≡ 1 → TrueResult M part

  -- a timeout certificate that says yes: .. signed its round, with the high round that it gives for that place
  abbrev pub TrueTC : List ℕ → Type 0
  TrueTC part =
      verdict_in tc_form part ≡ 1 → (p : ℕ) → Sits M p → member p (places_in tc_form part) ≡ true
      → Expired M p (num_at 8 part 0) (get_or (highs_of part) p 0)

  -- The results that come with the events of the course c: a vote's own, those of QCs, and those of TCs in a PROPOSE. A timeout's own result and that of a TC event need
  -- not be true: they bring a unit no further than to a MAKE, and a block that is made from it goes to the others as a PROPOSE. LOOPBACK's are not looked at.
  pub record Truthful (c : Course) : Type 0 where
    pub vote : (m : Moment c) → kind_at m ≡ Some Kind.Vote → let v = vote_of (bytes_at m) in
        v.verdict ≡ 1 → Sits M v.author.0 → Signed M v.author.0 v.hash v.round.0
    pub timeout-qc : (m : Moment c) → kind_at m ≡ Some Kind.Timeout → TrueQC (qc_part (bytes_at m) timeout_qc)
    pub block-qc : (m : Moment c) → kind_at m ≡ Some Kind.Propose → TrueQC (qc_part (bytes_at m) block_qc)
    pub block-tc : (m : Moment c) → kind_at m ≡ Some Kind.Propose → (k : BlockTc) → (block_at m).tc ≡ Some k → TrueTC (tc_part (bytes_at m) k.at)

-- ---- "one digest names one block"

abbrev pub Came : {c : Course} → Moment c → Type 0
Came m = Passed (found_at m) (event_at m) ⊎ Looped (found_at m) (event_at m)

-- Its round, its QC's hash, and whether its QC is genesis. The QC's round then follows. A digest does not name its block's TC, nor who signed its QC.
pub record Named (a b : Content) : Type 0 where
  pub round : a.round ≡ b.round
  pub qc-hash : a.qc_hash ≡ b.qc_hash
  pub qc-genesis : is_genesis a.qc_hash a.qc_round ≡ is_genesis b.qc_hash b.qc_round

-- ---- "LOOPBACK carries only .."

-- ".. blocks that it already held waiting after a PROPOSE": one that passed its checks, whatever its answer. Those that wait (2, 3) are among them (`waits-passed` of
-- `runs`). It stands in the course, so its event was saved.
pub record Held {c : Course} (m : Moment c) : Type 0 where
  pub earlier : Moment (up_to c m.past)
  pub passed : Passed (found_at earlier) (event_at earlier)
  pub same : content_of (block_at earlier) ≡ content_of (block_at m)

-- ".. blocks that the same replica was told to make and made from that MAKE"
pub record Ordered {c : Course} (m : Moment c) : Type 0 where
  pub order : Rec
  pub told : Written order (outputs (up_to c m.past))
  pub made : MadeFrom order (content_of (block_at m))

-- ---- all of it

pub record Cabinets (M : Members) : Type 0 where
  -- "signature results are true"
  pub results : (p : ℕ) → Sits M p → Truthful M (M.course p)
  -- "one digest names one block", over all blocks that come to members that obey
  pub digests : (p q : ℕ) → Sits M p → Sits M q → (m : Moment (M.course p)) (n : Moment (M.course q)) → Came m → Came n
      → (block_at m).digest ≡ (block_at n).digest → Named (content_of (block_at m)) (content_of (block_at n))
  -- "LOOPBACK carries only blocks that the same replica was told to make and made from that MAKE, or blocks that it already held waiting after a PROPOSE"
  pub loopbacks : (p : ℕ) → Sits M p → (m : Moment (M.course p)) → Looped (found_at m) (event_at m) → Held m ⊎ Ordered m

-- ---- what is claimed

-- "the two sequences of delivered blocks"
abbrev pub delivered : Course → List Rec
delivered c = delivered_in (outputs c)

-- "one is the start of the other"
abbrev pub Starts : {A : Type 0} → List A → List A → Type 0
Starts {A} xs ys = (zs : List A) × (xs ++ zs ≡ ys)

abbrev pub OneLedger : Members → Type 0
OneLedger M =
    (p q : ℕ) → Sits M p → Sits M q
    → Starts (delivered (M.course p)) (delivered (M.course q)) ⊎ Starts (delivered (M.course q)) (delivered (M.course p))
