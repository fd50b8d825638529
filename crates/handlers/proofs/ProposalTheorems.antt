-- What the definition of PROPOSE up to its payload says, as theorems. No contract of this crate cites this file. Assumes nothing.
--     proposal-goes-on, proposes-on                      a block that goes on: its certificates were taken, and nothing is refused
--     proposal-passed, checks-passed, leader-passed      .. and every check was passed
--     proposal-takes                                     once the checks are passed the certificates are taken, whatever the payload
--     proposal-refused, proposal-early                   an early refusal leaves the state, and writes nothing
--     advanced-tc-keeps, certificates-keep, proposal-keeps     what taking the certificates, and a proposal, leave as it was
--     advanced-tc-committed, taken-committed             .. what was committed among it
--     taken-sound                                        a record still counts as started
use Prim.Native.Nat.{ℕ}
use mathlib.Core.Bool.{Bool, true, false, cond}
use mathlib.Core.List.{List}
use mathlib.Core.Path.{◌≡◌, refl, sym, ◌∙◌}
use native.Mathlib.Omega.{arith}
use borrow.Author.Tests.{eq-eqb, ne_eqb, eqb-true}
use lib.Dec.{eqb}
use lib.ListN.{length}
use Rattle.std.specs.Prelude.{Result, is_ok, Option, None, Some}
use Rattle.certificates.specs.declared.numbers.Signers.{Signers}
use Rattle.certificates.specs.declared.error.CertificateError.{CertificateError}
use Rattle.certificates.specs.Config.{total_max}
use Rattle.certificates.specs.Leader.{leader_of}
use Rattle.certificates.specs.Messages.{author_check}
use Rattle.certificates.specs.Error.{wait_payload, wrong_leader, qc_requires_quorum, invalid_payload, number_of, author_number}
use Rattle.trace.specs.declared.events.Block.{Block}
use Rattle.trace.specs.declared.events.BlockTc.{BlockTc}
use Rattle.moves.specs.declared.state.Core.{Core}
use Rattle.moves.specs.State.{State, whole}
use Rattle.moves.specs.Outcome.{Step, quiet, done, refused, Did}
use Rattle.moves.specs.Moves.{taken_qc}
use Rattle.moves.specs.Tallied.{qc_of}
use Rattle.moves.proofs.MoveLaws.{Keeps, keeps-none, keeps_then, advanced-keeps, taken-keeps}
use Rattle.aggregator.specs.Tallies.{votes_length, timeouts_length}
use Rattle.handlers.specs.Sound.{Sound, first, signers_of}
use Rattle.moves.specs.declared.state.Ran.{Ran}
use Rattle.handlers.specs.Proposals.{leader_check, qc_found, tc_number, proposal_check, advanced_by, advanced_tc, taken, payload_number, by_payload, proposal_with, proposal_of, Proposes}
use Rattle.handlers.proofs.HandlerLaws.{first-both, keeps-sound}

-- ---- the checks

pub record Passes (m : List ℕ) (b : Block) (input : List ℕ) (c : Result Signers CertificateError) : Type 0 where
  pub leader : leader_check m b ≡ 0
  pub qc : number_of c qc_requires_quorum ≡ 0
  pub tc : tc_number m b input ≡ 0

pub checks-passed : (m : List ℕ) (b : Block) (input : List ℕ) (qc : Result Signers CertificateError) → proposal_check m b input qc ≡ 0 → Passes m b input qc
unfolding proposal_check
checks-passed m b input qc e =
    let x = first-both (leader_check m b) (first (number_of qc qc_requires_quorum) (tc_number m b input)) e in
    let y = first-both (number_of qc qc_requires_quorum) (tc_number m b input) x.1 in
    record { leader = x.0; qc = y.0; tc = y.1 }

from-leader : (t : Bool) (n : ℕ) → cond t n wrong_leader ≡ 0 → (t ≡ true) × (n ≡ 0)
from-leader true n e = (refl, e)
from-leader false n e = absurd (omega arith)

-- the author leads the block's round, and passed its own check
pub leader-passed : (m : List ℕ) (b : Block) → leader_check m b ≡ 0 → (leader_of m b.round.0 ≡ b.author.0) × (author_number (author_check m b.author.0 b.verdict) ≡ 0)
unfolding leader_check
leader-passed m b e =
    let x = from-leader (eqb (leader_of m b.round.0) b.author.0) (author_number (author_check m b.author.0 b.verdict)) e in
    (eqb-true _ _ x.0, x.1)

-- ---- what a proposal leaves

module _ (m : List ℕ) (s : State) (b : Block) (input : List ℕ) (payload : ℕ) where
  from-going : (t : Bool) (n : ℕ) (a : Step) → (cond t (by_payload payload a) (record { goes_on = false; out = refused n s })).goes_on ≡ true
      → (cond t (by_payload payload a) (record { goes_on = false; out = refused n s })).out ≡ done 0 a
  unfolding by_payload payload_number
  from-going true n a h = rw h
  from-going false n a h = absurd (let z : ◌≡◌ {A = ℕ} 0 1 = cc in omega arith)

  -- a block that goes on: its certificates were taken, and nothing is refused
  pub proposal-goes-on : (proposal_of m s b input payload).goes_on ≡ true → (proposal_of m s b input payload).out ≡ done 0 (taken s b (signers_of (qc_found m input)))
  unfolding proposal_of proposal_with
  proposal-goes-on h = from-going (eqb (proposal_check m b input (qc_found m input)) 0) (proposal_check m b input (qc_found m input)) (taken s b (signers_of (qc_found m input))) h

  from-gone : (t : Bool) (n : ℕ) (a : Step) → (cond t (by_payload payload a) (record { goes_on = false; out = refused n s })).goes_on ≡ true → t ≡ true
  from-gone true n a h = refl
  from-gone false n a h = h

  -- .. and every check was passed
  pub proposal-passed : (proposal_of m s b input payload).goes_on ≡ true → proposal_check m b input (qc_found m input) ≡ 0
  unfolding proposal_of proposal_with
  proposal-passed h =
      eqb-true _ 0 (from-gone (eqb (proposal_check m b input (qc_found m input)) 0) (proposal_check m b input (qc_found m input)) (taken s b (signers_of (qc_found m input))) h)

  -- once the checks are passed the certificates are taken, whatever the payload
  pub proposal-takes : proposal_check m b input (qc_found m input) ≡ 0 → proposal_of m s b input payload ≡ by_payload payload (taken s b (signers_of (qc_found m input)))
  unfolding proposal_of proposal_with
  proposal-takes h = rw (eq-eqb _ 0 h)

  -- an early refusal leaves the state, and writes nothing
  pub proposal-refused : (proposal_check m b input (qc_found m input) ≡ 0 → ⊥) → proposal_of m s b input payload ≡ record { goes_on = false; out = refused (proposal_check m b input (qc_found m input)) s }
  unfolding proposal_of proposal_with
  proposal-refused h = rw (ne_eqb _ 0 h)

  among : (t u : Bool) → let n = cond t 0 (cond u wait_payload invalid_payload) in (n ≡ 0 → ⊥) → (n ≡ wait_payload → ⊥) → (n ≡ invalid_payload → ⊥) → ⊥
  among true u h i j = h refl
  among false true h i j = i refl
  among false false h i j = j refl

  from-early : (t : Bool) (n : ℕ) (a : Step) → let o = (cond t (by_payload payload a) (record { goes_on = false; out = refused n s })).out in
      (o.answer ≡ 0 → ⊥) → (o.answer ≡ wait_payload → ⊥) → (o.answer ≡ invalid_payload → ⊥) → o.left ≡ quiet s
  unfolding by_payload payload_number
  from-early true n a h i j = absurd (among (eqb payload 1) (eqb payload 0) h i j)
  from-early false n a h i j = refl

  -- by the answer: any but DONE, WAIT PAYLOAD and payload invalid is early
  pub proposal-early : ((proposal_of m s b input payload).out.answer ≡ 0 → ⊥) → ((proposal_of m s b input payload).out.answer ≡ wait_payload → ⊥)
      → ((proposal_of m s b input payload).out.answer ≡ invalid_payload → ⊥) → (proposal_of m s b input payload).out.left ≡ quiet s
  unfolding proposal_of proposal_with
  proposal-early h i j = from-early (eqb (proposal_check m b input (qc_found m input)) 0) (proposal_check m b input (qc_found m input)) (taken s b (signers_of (qc_found m input))) h i j

-- what the code that handles a proposal did, where the block goes on
pub proposes-on : {k at : ℕ} {r : Ran} {out v t out' : List ℕ} (m : List ℕ) (s : State) (b : Block) (input : List ℕ) (payload : ℕ)
    → Proposes k (proposal_of m s b input payload) out at r v t out' → is_ok r.answer ≡ true → Did k (taken s b (signers_of (qc_found m input))) out at r.core v t out' r.at
proposes-on m s b input payload p h = rw (proposal-goes-on m s b input payload (sym p.goes ∙ h)) at p.did

-- ---- what taking the certificates leaves as it was

module _ (total : ℕ) (s : State) (long : length s.votes ≡ votes_length) (wide : length s.timeouts ≡ timeouts_length) (b : Block) where
  pub advanced-tc-keeps : Keeps total s (advanced_tc b s).state
  unfolding advanced_tc
  advanced-tc-keeps = cases b.tc
    where
      cases : (k : Option BlockTc) → Keeps total s (advanced_by k s).state
      cases None = keeps-none total s
      cases (Some k) = advanced-keeps total s long wide k.round.0

pub certificates-keep : (total : ℕ) (s : State) → length s.votes ≡ votes_length → length s.timeouts ≡ timeouts_length → (b : Block) (signers : Signers)
    → Keeps total s (taken s b signers).state
unfolding taken
certificates-keep total s long wide b signers =
    let q = qc_of b.qc_hash b.qc_round.0 signers in
    let k = taken-keeps total s long wide q in
    keeps_then k (advanced-tc-keeps total (taken_qc s q).state (k.votes ∙ long) (k.timeouts ∙ wide) b)

pub proposal-keeps : (total : ℕ) (s : State) → length s.votes ≡ votes_length → length s.timeouts ≡ timeouts_length → (m : List ℕ) (b : Block) (input : List ℕ) (payload : ℕ)
    → Keeps total s (proposal_of m s b input payload).out.left.state
unfolding proposal_of proposal_with by_payload
proposal-keeps total s long wide m b input payload =
    cases (eqb (proposal_check m b input (qc_found m input)) 0) (proposal_check m b input (qc_found m input)) (taken s b (signers_of (qc_found m input))) (certificates-keep total s long wide b (signers_of (qc_found m input)))
  where
    cases : (t : Bool) (n : ℕ) (a : Step) → Keeps total s a.state
        → Keeps total s (cond t (by_payload payload a) (record { goes_on = false; out = refused n s })).out.left.state
    cases true n a k = k
    cases false n a k = keeps-none total s

module _ (s : State) (long : length s.votes ≡ votes_length) (wide : length s.timeouts ≡ timeouts_length) (b : Block) where
  pub advanced-tc-committed : (advanced_tc b s).state.core.last_committed_round ≡ s.core.last_committed_round
  advanced-tc-committed = (advanced-tc-keeps 0 s long wide b).committed

  pub taken-committed : (signers : Signers) → (taken s b signers).state.core.last_committed_round ≡ s.core.last_committed_round
  taken-committed signers = (certificates-keep 0 s long wide b signers).committed

-- the record still counts as started
pub taken-sound : {m votes timeouts v t : List ℕ} {own : ℕ} {c : Core} (core : Core) (b : Block) (signers : Signers) → Sound m own votes timeouts
    → whole c v t ≡ (taken (whole core votes timeouts) b signers).state → Sound m own v t
taken-sound {votes = votes} {timeouts = timeouts} {v = v} {t = t} {c = c} core b signers k e =
    keeps-sound {s = whole core votes timeouts} {s' = whole c v t} (rw e (certificates-keep total_max (whole core votes timeouts) k.long k.wide b signers)) k
