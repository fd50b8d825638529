-- Laws of PROPOSE up to its payload: one for each way out. Assumes nothing.
--     leader-other, leader-author                        `leader_check`
--     tc-none, tc-checked                                `tc_number`
--     take_none, take-tc                                 `take_certificates`
--     check-leader, check-qc, check-tc                   `check_proposal`
--     proposal-refused, proposal-taken                   `handle_proposal`
use Prim.Native.Nat.{ℕ}
use mathlib.Core.Bool.{Bool, true, false, cond}
use lib.Dec.{eqb}
use mathlib.Core.List.{List}
use mathlib.Core.Path.{◌≡◌, refl, sym, ◌∙◌}
use borrow.Author.Tests.{eq-eqb, ne_eqb}
use Rattle.std.specs.Prelude.{Result, Ok, Err, is_ok, None, Some}
use Rattle.certificates.specs.declared.numbers.Signers.{Signers}
use Rattle.certificates.specs.declared.numbers.Stake.{Stake}
use Rattle.certificates.specs.declared.error.AuthorError.{AuthorError}
use Rattle.certificates.specs.declared.error.CertificateError.{CertificateError}
use Rattle.certificates.specs.Config.{quorum_of}
use Rattle.certificates.specs.Leader.{leader_of}
use Rattle.certificates.specs.Messages.{embedded_check, tc_check, author_check}
use Rattle.certificates.specs.declared.error.Refusal.{Refusal}
use Rattle.certificates.specs.declared.error.Refusal.TheVariants as refusal
use Rattle.certificates.specs.Error.{code, number, wait_payload, wrong_leader, qc_requires_quorum, tc_requires_quorum, invalid_payload, number_of, author_number}
use Rattle.trace.specs.declared.events.Block.{Block}
use Rattle.trace.specs.declared.events.BlockTc.{BlockTc}
use Rattle.trace.specs.Layout.{block_qc, qc_part, tc_part}
use Rattle.moves.specs.declared.state.Core.{Core}
use Rattle.moves.specs.declared.state.Moved.{Moved}
use Rattle.moves.specs.State.{whole}
use Rattle.moves.specs.Outcome.{Did}
use Rattle.moves.specs.Moves.{advanced, taken_qc, advance_most}
use Rattle.moves.specs.Tallied.{qc_of}
use Rattle.moves.proofs.Outcomes.{did-quiet, did_then}
use Rattle.handlers.specs.Sound.{signers_of, Answers}
use Rattle.moves.specs.declared.state.Ran.{Ran}
use Rattle.handlers.specs.Proposals.{leader_check, qc_found, tc_number, proposal_check, advanced_tc, taken, taken_most, payload_number, payload_answer, by_payload, proposal_with, proposal_of, Proposes, payload_as}
use Rattle.handlers.proofs.HandlerLaws.{answer-no, answer-yes, passes-no, passes-yes, passes-first, passes-on, found-no, found-yes}
use Rattle.certificates.proofs.ErrorLaws.{code-some}

-- ---- the checks

module _ (m : List ℕ) (b : Block) {l : ℕ} (e : l ≡ leader_of m b.round.0) where
  pub leader-other : (l ≡ b.author.0 → ⊥) → wrong_leader ≡ leader_check m b
  unfolding leader_check
  leader-other h = rw (← e, ne_eqb _ _ h)

  pub leader-author : {n : ℕ} {a : Result Stake AuthorError} → l ≡ b.author.0 → a ≡ author_check m b.author.0 b.verdict → n ≡ author_number a → n ≡ leader_check m b
  unfolding leader_check
  leader-author h f g = rw (← e, eq-eqb _ _ h, ← f) g

module _ (m : List ℕ) (b : Block) (input : List ℕ) where
  pub tc-none : b.tc ≡ None → 0 ≡ tc_number m b input
  unfolding tc_number
  tc-none h = rw h

  module _ {need : ℕ} {part : List ℕ} {c : Result Signers CertificateError} {t : BlockTc} (h : b.tc ≡ Some t) (q : need ≡ quorum_of m) (p : part ≡ tc_part input t.at) (e : c ≡ tc_check m need part) where
    pub tc-checked : number_of c tc_requires_quorum ≡ tc_number m b input
    unfolding tc_number
    tc-checked = rw (h, ← q, ← p, ← e)

    pub tc-passed : {y : Signers} → c ≡ Ok y → 0 ≡ tc_number m b input
    tc-passed i = sym (found-yes tc_requires_quorum i).0 ∙ tc-checked

    pub tc-refused : {f : CertificateError} (r : Refusal) → c ≡ Err f → code r ≡ number_of (Err f) tc_requires_quorum → code r ≡ tc_number m b input
    tc-refused r i n = found-no tc_requires_quorum r i n ∙ tc-checked

-- ---- all checks

abbrev all : List ℕ → Block → List ℕ → ℕ
all m b input = proposal_check m b input (qc_found m input)

abbrev signed : List ℕ → List ℕ → Signers
signed m input = signers_of (qc_found m input)

module _ (m : List ℕ) (b : Block) (input : List ℕ) {l : Result Unit Refusal} (e : number l ≡ leader_check m b) where
  pub check-leader : {r : Refusal} → l ≡ Err r → Answers (all m b input) (signed m input) (Err r)
  unfolding proposal_check
  check-leader i = passes-first _ _ (answer-no e i)

  module _ {u : Unit} (z : l ≡ Ok u) {need : ℕ} {part : List ℕ} {c : Result Signers CertificateError} (q : need ≡ quorum_of m) (p : part ≡ qc_part input block_qc) (f : c ≡ embedded_check m need part) where
    found : qc_found m input ≡ c
    found = rw (f, q, p)

    pub check-qc : {w : CertificateError} (r : Refusal) → c ≡ Err w → code r ≡ number_of (Err w) qc_requires_quorum → Answers (all m b input) (signed m input) (Err r)
    unfolding proposal_check
    check-qc r i n = passes-on (answer-yes e z) (passes-first _ r (found-no qc_requires_quorum r (found ∙ i) n))

    module _ {y : Signers} (i : c ≡ Ok y) {t : Result Unit Refusal} (g : number t ≡ tc_number m b input) where
      pub check-tc : {r : Refusal} → t ≡ Err r → Answers (all m b input) (signed m input) (Err r)
      unfolding proposal_check
      check-tc j = let k = found-yes qc_requires_quorum (found ∙ i) in passes-on (answer-yes e z) (passes-on k.0 (passes-no _ (answer-no g j)))

      pub check-passed : {v : Unit} → t ≡ Ok v → Answers (all m b input) (signed m input) (Ok y)
      unfolding proposal_check
      check-passed j = let k = found-yes qc_requires_quorum (found ∙ i) in passes-on (answer-yes e z) (passes-on k.0 (passes-yes (answer-yes g j) k.1))

-- ---- the certificates are taken

module _ (core : Core) (votes timeouts : List ℕ) (b : Block) (signers : Signers) {c : Core} {v t out out' : List ℕ} {at mid : ℕ}
    (p : Did advance_most (taken_qc (whole core votes timeouts) (qc_of b.qc_hash b.qc_round.0 signers)) out at c v t out' mid) where
  pub take_none : b.tc ≡ None → Did taken_most (taken (whole core votes timeouts) b signers) out at c v t out' mid
  unfolding taken advanced_tc
  take_none h = did_then {l = advance_most} (advanced_tc b) p (rw h (did-quiet advance_most c v t out' mid))

  pub take-tc : {c' : Core} {v' t' out'' : List ℕ} {end : ℕ} {k : BlockTc} → b.tc ≡ Some k → Did advance_most (advanced (whole c v t) k.round.0) out' mid c' v' t' out'' end
      → Did taken_most (taken (whole core votes timeouts) b signers) out at c' v' t' out'' end
  unfolding taken advanced_tc
  take-tc h q = did_then {l = advance_most} (advanced_tc b) p (rw h q)

-- ---- the payload

module _ (payload : ℕ) where
  pub payload-goes : is_ok (payload_answer payload) ≡ eqb payload 1
  payload-goes = cases (eqb payload 1) (eqb payload 0)
    where
      cases : (u v : Bool) → is_ok (cond u (Ok (tt {0})) (cond v (Err refusal.WaitPayload) (Err refusal.InvalidPayload))) ≡ u
      cases true v = refl
      cases false true = refl
      cases false false = refl

  pub payload-is : number (payload_answer payload) ≡ payload_number payload
  unfolding payload_number
  payload-is = cases (eqb payload 1) (eqb payload 0)
    where
      cases : (u v : Bool) → number (cond u (Ok (tt {0})) (cond v (Err refusal.WaitPayload) (Err refusal.InvalidPayload))) ≡ cond u 0 (cond v wait_payload invalid_payload)
      cases true v = refl
      cases false true = refl
      cases false false = refl

-- ---- the handler

module _ (m : List ℕ) (core : Core) (votes timeouts out : List ℕ) (b : Block) (input : List ℕ) (payload : ℕ) {x : Result Signers Refusal}
    (c : Answers (proposal_check m b input (qc_found m input)) (signers_of (qc_found m input)) x) where
  pub proposal-refused : {r : Refusal} → x ≡ Err r
      → Proposes taken_most (proposal_of m (whole core votes timeouts) b input payload) out 0 (record { answer = Err r; core = core; at = 0 }) votes timeouts out
  unfolding proposal_of proposal_with
  proposal-refused {r} i =
      rw (← c.refused r i, ne_eqb (code r) 0 (code-some r)) (record { goes = refl; answer = refl; did = did-quiet taken_most core votes timeouts out 0 })

  pub proposal-taken : {y : Signers} {a : Moved} {r : Ran} {v' t' out' : List ℕ} → x ≡ Ok y
      → Did taken_most (taken (whole core votes timeouts) b y) out 0 a.core v' t' out' a.at → r ≡ payload_as a payload
      → Proposes taken_most (proposal_of m (whole core votes timeouts) b input payload) out 0 r v' t' out'
  unfolding proposal_of proposal_with by_payload
  proposal-taken {y} i w u =
      let q = c.passed y i in
      rw (q.0, ← q.1, u) (record { goes = payload-goes payload; answer = payload-is payload; did = w })
