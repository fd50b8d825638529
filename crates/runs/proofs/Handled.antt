-- Each event's own part is `Good` from a state that is `Kept`, where the results that come with the event are true and what it signs counts as signed. m is the committee,
-- g what is known of who signed; where that is `unknown`, all of it is true. Assumes nothing.
--     SureQC, SureTC g part   the result of a certificate is true
--     Mine g own outs         what is signed in these records counts as signed by the own place
--     accepted-quorate        a certificate that is accepted names a quorum of members with stake
--     embedded-backs, tc-closes     a QC that is accepted inside a block or a timeout, and is not genesis, is backed; a TC that is accepted closes its round
--     embedded-may            such a QC may be taken
--     good-handled-..         VOTE, TIMEOUT, TC, TICK
--     good-processed, good-proposed     LOOPBACK, PROPOSE
use Prim.Native.Nat.{ℕ, ◌+◌, ◌≤◌, ◌<◌}
use mathlib.Core.Bool.{Bool, true, false, cond}
use mathlib.Core.List.{List, [], ◌∷◌, ◌++◌, map}
use mathlib.Core.Logic.{inl, inr}
use mathlib.Core.Path.{◌≡◌, refl, sym, ap, ◌∙◌}
use native.Mathlib.Omega.{arith}
use borrow.Author.Tests.{eqb-true, eqb-false, ne_eqb}
use lib.Dec.{eqb, ltb, leb, lit<}
use lib.ListN.{length, get_or}
use Rattle.std.specs.Prelude.{Ok, Result, Option, None, Some}
use Rattle.certificates.specs.declared.numbers.Hash.{Hash}
use Rattle.certificates.specs.declared.numbers.Signers.{Signers}
use Rattle.certificates.specs.declared.messages.QC.{QC}
use Rattle.certificates.specs.declared.error.CertificateError.{CertificateError}
use Rattle.certificates.specs.Config.{members_max, stake_of, quorum_of}
use Rattle.certificates.specs.Num.{num_at, hash_at}
use Rattle.certificates.specs.Numbers.{round_max, zero_hash, same_hash}
use Rattle.certificates.specs.Leader.{leader_of}
use Rattle.certificates.specs.Signers as signed
use Rattle.certificates.specs.Signers.{member}
use Rattle.certificates.specs.Messages.{qc_form, tc_form, is_genesis, verdict_in, places_in, check_part, tc_check, equals_genesis, embedded_check, author_check}
use Rattle.certificates.specs.Error.{stale, qc_requires_quorum, tc_requires_quorum, round_too_high, number_of, author_number}
use Rattle.certificates.proofs.Check.{Known}
use Rattle.certificates.proofs.ErrorLaws.{number-accepted, number-valid}
use Rattle.certificates.proofs.MessageLaws.{author}
use Rattle.certificates.proofs.Accepted.{certified, certified-known, certified-named, walked-distinct, embedded-part, tc-part}
use Rattle.trace.specs.declared.events.Vote.{Vote}
use Rattle.trace.specs.declared.events.Block.{Block}
use Rattle.trace.specs.declared.events.BlockTc.{BlockTc}
use Rattle.trace.specs.Layout.{block_qc, timeout_qc, tc_body, tc_round, qc_part, tc_part, highs_of}
use Rattle.trace.specs.Fields.{timeout_of, block_of}
use Rattle.trace.proofs.PartLaws.{qc-part-hash, qc-part-round, tc-part-round}
use Rattle.trace.proofs.FieldLaws.{timeout-qc-hash, timeout-qc-round, block-qc-hash, block-qc-round}
use Rattle.outputs.specs.Records.{Rec, vote, timeout, clean_mempool, timer_reset}
use Rattle.synchronizer.specs.declared.table.Slot.{Slot}
use Rattle.synchronizer.specs.declared.settle.Arrival.{Arrival}
use Rattle.synchronizer.specs.Settle.{Settlement, is_two_chain, clean_of, commit_if, commit_rec, linked_of}
use Rattle.synchronizer.specs.Kept.{Keeps}
use Rattle.synchronizer.proofs.KeptLaws.{settled-keeps}
use Rattle.moves.specs.declared.state.Core.{Core}
use Rattle.moves.specs.State.{State, with_core, with_voted, with_committed}
use Rattle.moves.specs.Outcome.{Outcome, quiet, wrote, done, after, refused, checked}
use Rattle.moves.specs.Moves.{make_with_of}
use Rattle.moves.specs.Tallied.{qc_of, vote_tallied, timeout_tallied}
use Rattle.handlers.specs.Sound.{first as first_of, signers_of}
use Rattle.handlers.specs.Votes.{vote_check, handled_vote, may_vote, own_vote, voted, voting}
use Rattle.handlers.specs.Timeouts.{timeout_check, timeout_taken, timeout_with, handled_timeout, tc_taken, stale_if, tc_with, handled_tc, voted_up, ticked, own_timeout, handled_tick}
use Rattle.handlers.specs.Proposals.{qc_found, proposal_check, advanced_by, advanced_tc, taken, by_payload, proposal_of}
use Rattle.handlers.proofs.HandlerLaws.{first-both}
use Rattle.handlers.proofs.ProposalTheorems.{checks-passed, proposal-takes, proposal-refused}
use Rattle.replica.specs.Blocks.{arrival_for, settled_for, settled_step, after_settled, processed, going_on}
use Rattle.runs.specs.Runs.{Written}
use Rattle.runs.proofs.Lists.{written_behind}
use Rattle.runs.proofs.Tallied.{Quorate}
use Rattle.runs.proofs.Certificates.{signers-word}
use Rattle.runs.proofs.Plain.{advanced-above}
use Rattle.runs.proofs.Kept.{Signatures, Every, none, more, every_append, Backs, Closes, Backed, backed, backed-good, backed-backs, Kept, Writes, Good, Begins, MayTake, good-quiet, begins-good, good-then, begins-quiet, begins-then, kept-core, begins-advanced, begins-taken, writes-make-with, good-vote, good-timeout}

-- ---- results

module _ (g : Signatures) where
  abbrev pub SureQC : List ℕ → Type 0
  SureQC part = equals_genesis part ≡ false → verdict_in qc_form part ≡ 1 → (p : ℕ) → member p (places_in qc_form part) ≡ true → g.votes p (hash_at part 0) (num_at 8 part 32)

  abbrev pub SureTC : List ℕ → Type 0
  SureTC part = verdict_in tc_form part ≡ 1 → (p : ℕ) → member p (places_in tc_form part) ≡ true → g.expires p (num_at 8 part 0) (get_or (highs_of part) p 0)

  pub record Mine (own : ℕ) (outs : List Rec) : Type 0 where
    pub votes : (to n : ℕ) (h : Hash) → Written (vote to h n) outs → g.votes own h n
    pub expires : (u : ℕ) (q : QC) → Written (timeout u q) outs → g.expires own u q.round.0

mine-behind : (g : Signatures) (own : ℕ) (xs : List Rec) {ys : List Rec} → Mine g own (xs ++ ys) → Mine g own ys
mine-behind g own xs k = record { votes = λ to n h w. k.votes to n h (written_behind xs w); expires = λ u q w. k.expires u q (written_behind xs w) }

-- ---- certificates that were accepted

pub accepted-quorate : (f : _) (m part : List ℕ) (s : Signers) → check_part f m (quorum_of m) part ≡ Ok s → Quorate m s
unfolding signed.signers_of
accepted-quorate f m part s e =
    let k = certified f m (quorum_of m) part s e in
    record {
      members = certified-known k;
      quorum = k.quorum;
      word = rw (← k.who) (signers-word signed.no_signers (places_in f part) (lit< tt) (λ j l. ((walked-distinct m (places_in f part) k.walked).known j l).small));
    }

-- a QC that is not genesis by hash and round does not equal genesis
other-bytes : (part : List ℕ) → is_genesis (hash_at part 0) (num_at 8 part 32) ≡ false → equals_genesis part ≡ false
unfolding equals_genesis
other-bytes part e = cases (leb qc_form.at (length part))
  where
    cases : (b : Bool) → cond b (is_genesis (hash_at part 0) (num_at 8 part 32)) false ≡ false
    cases true = e
    cases false = refl

other-round : (h : Hash) (n : ℕ) → 0 < n → is_genesis h n ≡ false
unfolding is_genesis
other-round h n l = cases (same_hash h zero_hash)
  where
    cases : (b : Bool) → cond b (eqb n 0) false ≡ false
    cases true = ne_eqb n 0 (λ z. omega arith)
    cases false = refl

past-stale : (b : Bool) (n : ℕ) → cond b stale n ≡ 0 → n ≡ 0
past-stale true n e = absurd (omega arith)
past-stale false n e = e

module _ (m : List ℕ) (g : Signatures) where
  embedded-backed : (part : List ℕ) (s : Signers) → SureQC g part → embedded_check m (quorum_of m) part ≡ Ok s → is_genesis (hash_at part 0) (num_at 8 part 32) ≡ false
      → Backed m g (qc_of (hash_at part 0) (num_at 8 part 32) s)
  embedded-backed part s sure e f =
      let other = other-bytes part f in
      let a : check_part qc_form m (quorum_of m) part ≡ Ok s = sym (embedded-part m (quorum_of m) part other) ∙ e in
      let k = certified qc_form m (quorum_of m) part s a in
      backed (accepted-quorate qc_form m part s a) (λ p b. sure other k.verdict p (certified-named k p b))

  pub embedded-backs : (part : List ℕ) (s : Signers) → SureQC g part → embedded_check m (quorum_of m) part ≡ Ok s → is_genesis (hash_at part 0) (num_at 8 part 32) ≡ false
      → Backs m g (hash_at part 0) (num_at 8 part 32)
  embedded-backs part s sure e f = backed-backs m g (qc_of (hash_at part 0) (num_at 8 part 32) s) (embedded-backed part s sure e f) f

  embedded-may : (part : List ℕ) {h : Hash} {n : ℕ} (c : Result Signers CertificateError) → hash_at part 0 ≡ h → num_at 8 part 32 ≡ n → SureQC g part → c ≡ embedded_check m (quorum_of m) part
      → number_of c qc_requires_quorum ≡ 0 → MayTake m g (qc_of h n (signers_of c))
  embedded-may part c e f sure same passed =
      let a = number-accepted c qc_requires_quorum (λ z. omega arith) passed in
      rw (a.1, ← e, ← f) (λ l. embedded-backed part a.0 sure (sym same ∙ a.1) (other-round (hash_at part 0) (num_at 8 part 32) l))

  -- a TC that was accepted closes its round
  pub tc-closes : (part : List ℕ) (s : Signers) → SureTC g part → tc_check m (quorum_of m) part ≡ Ok s → Closes m g (num_at 8 part 0) s (highs_of part)
  tc-closes part s sure e =
      let a : check_part tc_form m (quorum_of m) part ≡ Ok s = sym (tc-part m (quorum_of m) part) ∙ e in
      let k = certified tc_form m (quorum_of m) part s a in
      record { quorum = accepted-quorate tc_form m part s a; signed = λ p b. sure k.verdict p (certified-named k p b) }

  good-checked : {s : State} → Kept m g s → (n : ℕ) (o : Outcome) → (n ≡ 0 → Good m g o.left) → Good m g (checked n s o).left
  good-checked {s} k n o h = cases (eqb n 0) refl
    where
      cases : (b : Bool) → eqb n 0 ≡ b → Good m g (cond b o (refused n s)).left
      cases true e = h (eqb-true n 0 e)
      cases false e = good-quiet m g k

  -- ---- the table's records hold no certificate

  module _ (c : Core) where
    writes-commits : (bs : List Slot) → Every (Writes m g c) (map commit_rec bs)
    writes-commits [] = none
    writes-commits (b ∷ bs) = more (record { sends = tt; makes = tt }) (writes-commits bs)

    writes-clean : (b0 b1 b : Slot) → Every (Writes m g c) (clean_of b0 b1 b)
    unfolding clean_of
    writes-clean b0 b1 b = more (record { sends = tt; makes = tt }) (cases (is_two_chain b0 b1))
      where
        cases : (d : Bool) → Every (Writes m g c) (cond d (clean_mempool b0.round.0 ∷ []) [])
        cases true = more (record { sends = tt; makes = tt }) none
        cases false = none

    writes-linked : (t : List Slot) (b b0 b1 : Slot) (last : ℕ) → Every (Writes m g c) (linked_of t b b0 b1 last).outs
    unfolding linked_of
    writes-linked t b b0 b1 last = every_append (writes-clean b0 b1 b) (writes-commits (commit_if t b0 b1 last).blocks)

    writes-rows : (t : List Slot) (w : Arrival) {p : Settlement} → Keeps t w p → Every (Writes m g c) p.outs
    writes-rows t w (inl e) = rw e (more (record { sends = tt; makes = tt }) none)
    writes-rows t w (inr (inl e)) = rw e none
    writes-rows t w (inr (inr (inl e))) = rw e none
    writes-rows t w (inr (inr (inr (inl e)))) = rw e (writes-clean _ _ _)
    writes-rows t w (inr (inr (inr (inr (inl e))))) = rw e (writes-clean _ _ _)
    writes-rows t w (inr (inr (inr (inr (inr e))))) = rw e.0 (writes-linked _ _ _ _ _)

  module _ (few : length m ≤ members_max) where
    -- an author whose check is passed is a member with stake, and the result is not no
    author-known : (p verdict : ℕ) → author_number (author_check m p verdict) ≡ 0 → Known m p × (verdict ≡ 0 → ⊥)
    author-known p verdict e =
        let v = number-valid (author_check m p verdict) e in
        let a = author m p verdict v.0 v.1 in
        (record { small = omega (arith, a.member); stake = λ z. a.staked (a.stake ∙ z) }, a.signed)

    module _ (own : ℕ) where
      -- ---- VOTE, TIMEOUT, TC

      pub good-handled-vote : {s : State} → Kept m g s → (v : Vote) → ((v.verdict ≡ 0 → ⊥) → g.votes v.author.0 v.hash v.round.0)
          → Good m g (handled_vote m own s v).left
      unfolding handled_vote vote_check
      good-handled-vote {s} k v sure =
          good-checked k (vote_check m s.core.round.0 v) (vote_tallied m own (quorum_of m) s v.hash v.round.0 v.author.0 (stake_of m v.author.0))
          (λ e.
          let who = author-known v.author.0 v.verdict (past-stale (ltb v.round.0 s.core.round.0) _ e) in
          good-vote m g k v.author.0 who.0 v.hash v.round.0 (sure who.1) own)

      pub good-handled-timeout : {s : State} → Kept m g s → (r : List ℕ)
          → (((timeout_of r).verdict ≡ 0 → ⊥) → g.expires (timeout_of r).author.0 (timeout_of r).round.0 (timeout_of r).qc_round.0) → SureQC g (qc_part r timeout_qc)
          → Good m g (handled_timeout m own s (timeout_of r) r).left
      unfolding handled_timeout timeout_with timeout_check timeout_taken
      good-handled-timeout {s} k r sure sure-qc =
          let t = timeout_of r in
          let c = embedded_check m (quorum_of m) (qc_part r timeout_qc) in
          let q = qc_of t.qc_hash t.qc_round.0 (signers_of c) in
          good-checked k (first_of (timeout_check m s.core.round.0 t) (number_of c qc_requires_quorum)) (timeout_taken m own s t (signers_of c))
          (λ e.
          let b = first-both (timeout_check m s.core.round.0 t) (number_of c qc_requires_quorum) e in
          let who = author-known t.author.0 t.verdict (past-stale (ltb t.round.0 s.core.round.0) _ b.0) in
          let may = embedded-may (qc_part r timeout_qc) c (qc-part-hash r timeout_qc ∙ sym (timeout-qc-hash r)) (qc-part-round r timeout_qc ∙ sym (timeout-qc-round r)) sure-qc refl b.1 in
          good-then m g (λ (u : State). (timeout_tallied m own (quorum_of m) u t.round.0 t.author.0 (stake_of m t.author.0) t.qc_round.0).left)
          (begins-taken m g k q may)
          (λ n. good-timeout m g n t.author.0 who.0 t.round.0 t.qc_round.0 (sure who.1) own))

      pub good-handled-tc : {s : State} → Kept m g s → (r : List ℕ) → SureTC g (tc_part r tc_body) → Good m g (handled_tc m own s (tc_round r tc_body) r).left
      unfolding handled_tc tc_with tc_taken
      good-handled-tc {s} k r sure =
          let part = tc_part r tc_body in
          let round = tc_round r tc_body in
          let c = tc_check m (quorum_of m) part in
          good-checked k (first_of (number_of c tc_requires_quorum) (stale_if round s.core.round.0)) (done 0 (tc_taken m own s round (signers_of c) part))
          (λ e.
          let b = first-both (number_of c tc_requires_quorum) (stale_if round s.core.round.0) e in
          let a = number-accepted c tc_requires_quorum (λ z. omega arith) b.0 in
          let x : Closes m g round a.0 (highs_of part) = rw (tc-part-round r tc_body) at (tc-closes part a.0 sure a.1) in
          let same : signers_of c ≡ a.0 = ap signers_of a.1 in
          rw same
          (good-then m g (λ (u : State). record { state = u; outs = make_with_of m own u.core round a.0.0 (highs_of part) }) (begins-advanced m g k round)
          (λ n. record { state = n; outs = writes-make-with m g own n round a.0 (highs_of part) x (advanced-above s round) })))

      -- ---- TICK: the own timeout is signed because it was written

      -- last voted rises, and the round and the high QC stay
      voted-up : {s : State} → Kept m g s → let c = voted_up s.core s.core.round.0 in Kept m g (with_core s c) × (c.round ≡ s.core.round) × (c.high_qc ≡ s.core.high_qc)
      unfolding voted_up
      voted-up {s} k = cases (ltb s.core.last_voted_round.0 s.core.round.0)
        where
          cases : (b : Bool) → let c = cond b (with_voted s.core s.core.round.0) s.core in Kept m g (with_core s c) × (c.round ≡ s.core.round) × (c.high_qc ≡ s.core.high_qc)
          cases true = (kept-core m g k (with_voted s.core s.core.round.0) k.high k.below (omega arith), refl, refl)
          cases false = (k, refl, refl)

      good-own-timeout : {s : State} → Kept m g s → g.expires own s.core.round.0 s.core.high_qc.round.0 → Good m g (own_timeout m own s).left
      unfolding own_timeout
      good-own-timeout {s} k mine =
          good-checked k (author_number (author_check m own 1)) (timeout_tallied m own (quorum_of m) s s.core.round.0 own (stake_of m own) s.core.high_qc.round.0)
          (λ e. good-timeout m g k own (author-known own 1 e).0 s.core.round.0 s.core.high_qc.round.0 mine own)

      pub good-handled-tick : {s : State} → Kept m g s → Mine g own (handled_tick m own s).left.outs → Good m g (handled_tick m own s).left
      unfolding handled_tick
      good-handled-tick {s} k mine = cases (ltb round_max s.core.round.0) mine
        where
          cases : (b : Bool) → let o = cond b (refused round_too_high s) (after (ticked s) (own_timeout m own)) in Mine g own o.left.outs → Good m g o.left
          cases true f = good-quiet m g k
          cases false f =
              let c = s.core in
              let u = voted-up k in
              let x = f.expires c.round.0 c.high_qc (record { before = timer_reset ∷ []; rest = (own_timeout m own (ticked s).state).left.outs; is = refl }) in
              good-then m g {a = ticked s} (λ (t : State). (own_timeout m own t).left)
              (record {
                state = u.0;
                outs = λ d. more (record { sends = tt; makes = tt }) (more (record { sends = backed-good m g c.high_qc k.high; makes = tt }) none);
              })
              (λ n. good-own-timeout n (rw (u.1, u.2) x))

      -- ---- the vote for a block: the own vote is signed because it was written

      good-own-vote : {s : State} → Kept m g s → (b : Block) → g.votes own b.digest b.round.0 → Good m g (own_vote m own b s).left
      unfolding own_vote
      good-own-vote {s} k b mine =
          good-checked k (author_number (author_check m own 1)) (vote_tallied m own (quorum_of m) s b.digest b.round.0 own (stake_of m own))
          (λ e. good-vote m g k own (author-known own 1 e).0 b.digest b.round.0 mine own)

      good-voted : {s : State} → Kept m g s → (b : Block) → b.round.0 ≡ s.core.round.0 → Mine g own (voted m own b s).left.outs → Good m g (voted m own b s).left
      unfolding voted
      good-voted {s} k b current mine =
          let to = leader_of m (b.round.0 + 1) in
          let u : State = with_core s (with_voted s.core b.round.0) in
          let x = mine.votes to b.round.0 b.digest (record { before = []; rest = (cond (eqb to own) (own_vote m own b u) (done 0 (quiet u))).left.outs; is = refl }) in
          good-then m g {a = wrote u (vote to b.digest b.round.0)} (λ (t : State). (cond (eqb to own) (own_vote m own b t) (done 0 (quiet t))).left)
          (record { state = kept-core m g k u.core k.high k.below (omega (arith, current)); outs = λ c. more (record { sends = tt; makes = tt }) none })
          (λ n. cases n x (eqb to own))
        where
          cases : {t : State} → Kept m g t → g.votes own b.digest b.round.0 → (c : Bool) → Good m g (cond c (own_vote m own b t) (done 0 (quiet t))).left
          cases n x true = good-own-vote n b x
          cases n x false = good-quiet m g n

      good-voting : {s : State} → Kept m g s → (b : Block) → Mine g own (voting m own b s).left.outs → Good m g (voting m own b s).left
      unfolding voting
      good-voting {s} k b mine = cases (eqb b.round.0 s.core.round.0) refl (may_vote s.core b) mine
        where
          cases : (c : Bool) → eqb b.round.0 s.core.round.0 ≡ c → (d : Bool) → let o = cond c (cond d (voted m own b s) (done 0 (quiet s))) (done 0 (quiet s)) in
              Mine g own o.left.outs → Good m g o.left
          cases true e true f = good-voted k b (eqb-true _ _ e) f
          cases true e false f = good-quiet m g k
          cases false e d f = good-quiet m g k

      -- ---- LOOPBACK

      pub good-processed : {s : State} → Kept m g s → (t : List Slot) (b : Block) → Mine g own (processed m own t b s).left.outs → Good m g (processed m own t b s).left
      unfolding processed after_settled settled_for
      good-processed {s} k t b mine =
          let w = arrival_for b s.core.last_committed_round 0 in
          cases (settled_for s t b) (λ c. writes-rows c t w (settled-keeps t w)) (eqb (settled_for s t b).answer 0) mine
        where
          settles : (p : Settlement) → ((c : Core) → Every (Writes m g c) p.outs) → Begins m g (settled_step s p)
          settles p e = record { state = kept-core m g k (with_committed s.core p.last) k.high k.below k.voted; outs = e }

          cases : (p : Settlement) → ((c : Core) → Every (Writes m g c) p.outs) → (d : Bool) → let o = cond d (after (settled_step s p) (voting m own b)) (done p.answer (settled_step s p)) in
              Mine g own o.left.outs → Good m g o.left
          cases p e true f = good-then m g (λ (u : State). (voting m own b u).left) (settles p e) (λ n. good-voting n b (mine-behind g own p.outs f))
          cases p e false f = begins-good m g (settles p e)

      -- ---- PROPOSE

      begins-advanced-tc : {s : State} → Kept m g s → (b : Block) → Begins m g (advanced_tc b s)
      unfolding advanced_tc
      begins-advanced-tc {s} k b = cases b.tc
        where
          cases : (c : Option BlockTc) → Begins m g (advanced_by c s)
          cases None = begins-quiet m g k
          cases (Some c) = begins-advanced m g k c.round.0

      begins-certificates : {s : State} → Kept m g s → (r : List ℕ) → SureQC g (qc_part r block_qc) → proposal_check m (block_of r) r (qc_found m r) ≡ 0
          → Begins m g (taken s (block_of r) (signers_of (qc_found m r)))
      unfolding taken
      begins-certificates {s} k r sure e =
          let b = block_of r in
          let qc = (checks-passed m b r (qc_found m r) e).qc in
          let may = embedded-may (qc_part r block_qc) (qc_found m r) (qc-part-hash r block_qc ∙ sym (block-qc-hash r)) (qc-part-round r block_qc ∙ sym (block-qc-round r)) sure refl qc in
          begins-then m g (advanced_tc b) (begins-taken m g k (qc_of b.qc_hash b.qc_round.0 (signers_of (qc_found m r))) may) (λ n. begins-advanced-tc n b)

      good-going : (t : List Slot) (b : Block) (u : Bool) (o : Outcome) → Begins m g o.left → let x = cond u (after o.left (processed m own t b)) o in
          Mine g own x.left.outs → Good m g x.left
      good-going t b true o k mine = good-then m g (λ (u : State). (processed m own t b u).left) k (λ n. good-processed n t b (mine-behind g own o.left.outs mine))
      good-going t b false o k mine = begins-good m g k

      pub good-proposed : {s : State} → Kept m g s → (t : List Slot) (r : List ℕ) (payload : ℕ) → SureQC g (qc_part r block_qc)
          → let o = going_on m own t (block_of r) (proposal_of m s (block_of r) r payload) in
          Mine g own o.left.outs → Good m g o.left
      unfolding going_on by_payload
      good-proposed {s} k t r payload sure mine = cases (eqb (proposal_check m (block_of r) r (qc_found m r)) 0) refl
        where
          cases : (c : Bool) → eqb (proposal_check m (block_of r) r (qc_found m r)) 0 ≡ c → Good m g (going_on m own t (block_of r) (proposal_of m s (block_of r) r payload)).left
          cases true e =
              let p = proposal-takes m s (block_of r) r payload (eqb-true _ 0 e) in
              rw p
              (good-going t (block_of r) (eqb payload 1) (by_payload payload (taken s (block_of r) (signers_of (qc_found m r)))).out
              (begins-certificates k r sure (eqb-true _ 0 e)) (rw p at mine))
          cases false e = rw (proposal-refused m s (block_of r) r payload (eqb-false _ 0 e)) (good-quiet m g k)
