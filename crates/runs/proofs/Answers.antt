-- The numbers that checks may give, and what they say of an event's answer. Assumes nothing.
--     Checks P                    P holds of every number that a check or a limit may give
--     limit-in, number_in, author-in, check-in      so of those of a record's limits, a certificate, an author, a proposal
--     waits-passed                a PROPOSE that is answered 2 or 3 passed its checks
--     stopped                     30 and 31 are answers to a block that is not at the table what it must be, and to nothing else
use Prim.Native.Nat.{ℕ, ◌≤◌}
use mathlib.Core.Bool.{Bool, true, false, cond, ◌||◌, true≢false}
use mathlib.Core.List.{List, [], ◌∷◌}
use mathlib.Core.Logic.{◌⊎◌, inl, inr, ⊎_elim}
use mathlib.Core.Path.{◌≡◌, refl, sym, ap, ◌∙◌, subst}
use native.Mathlib.Omega.{arith}
use borrow.Author.Tests.{eqb-true, eqb-false}
use lib.Dec.{eqb, ltb}
use lib.ListN.{length}
use Rattle.aggregator.specs.Tally.{Added}
use Rattle.aggregator.specs.declared.tallies.AddError.TheVariants.{NoRoom, Used}
use Rattle.std.specs.Prelude.{Some, Ok, Err, None, Option}
use Rattle.std.specs.Prelude as std
use Rattle.certificates.specs.declared.numbers.Round.{Round}
use Rattle.certificates.specs.declared.numbers.Stake.{Stake}
use Rattle.certificates.specs.declared.numbers.Signers.{Signers}
use Rattle.certificates.specs.declared.error.CertificateError.{CertificateError}
use Rattle.certificates.specs.declared.error.CertificateError.TheVariants.{AuthorityReuse, UnknownAuthority, RequiresQuorum, InvalidSignature, Cut}
use Rattle.certificates.specs.declared.error.AuthorError.{AuthorError}
use Rattle.certificates.specs.declared.error.AuthorError.TheVariants as author
use Rattle.certificates.specs.Config.{stake_of, quorum_of}
use Rattle.certificates.specs.Numbers.{round_max}
use Rattle.certificates.specs.Leader.{leader_of}
use Rattle.certificates.specs.Signers.{member}
use Rattle.certificates.specs.Messages.{tc_check, embedded_check, author_check}
use Rattle.certificates.specs.Error.{stale, wait_parent, wait_payload, invalid_payload, bad_record, wrong_leader, no_room, round_too_high, list_too_long, unknown_authority, invalid_signature, authority_reuse, qc_requires_quorum, tc_requires_quorum, table_full, tallies_full, ancestor_absent, round_not_below, empty_tc, started_again, number_of, author_number}
use Rattle.trace.specs.declared.events.Kind.{Kind}
use Rattle.trace.specs.declared.events.Block.{Block}
use Rattle.trace.specs.declared.events.BlockTc.{BlockTc}
use Rattle.trace.specs.Form.{form_of, any_above}
use Rattle.trace.specs.Fields.{vote_of, timeout_of, block_of}
use Rattle.trace.specs.Layout.{signers_max, timeout_qc, tc_body, qc_part, tc_part, tc_round, payload_of}
use Rattle.trace.specs.Limits.{counts_of, rounds_of, empty_tc as has_empty_tc, limit_of}
use Rattle.aggregator.specs.Tallies.{timeout_added, timeouts_after}
use Rattle.synchronizer.proofs.Lookups.{Stopped, settled-stopped}
use Rattle.moves.specs.State.{State}
use Rattle.moves.specs.Outcome.{Step, Outcome, done, after, refused, checked}
use Rattle.moves.specs.Tallied.{vote_tallied, after_timeout, timeout_tallied}
use Rattle.moves.proofs.TallyLaws.{timeout-tallied-is}
use Rattle.handlers.specs.Sound.{first, signers_of}
use Rattle.handlers.specs.Votes.{vote_check, handled_vote}
use Rattle.handlers.specs.Timeouts.{timeout_check, timeout_taken, timeout_with, handled_timeout, tc_taken, stale_if, tc_with, handled_tc, ticked, own_timeout, handled_tick}
use Rattle.handlers.specs.Proposals.{leader_check, qc_found, tc_number_of, tc_number, proposal_check, taken, payload_number, by_payload}
use Rattle.handlers.proofs.VoteTheorems.{Votes, tallied-votes}
use Rattle.handlers.proofs.ProposalTheorems.{proposal-refused, proposal-takes, certificates-keep}
use Rattle.replica.specs.Started.{roomy}
use Rattle.replica.specs.Blocks.{slot_for, arrival_for, settled_for, processed, going_on}
use Rattle.replica.specs.Step.{World, Result, committee, handled, stepped}
use Rattle.replica.proofs.StartedLaws.{started-ready}
use Rattle.runs.specs.Runs.{Event, step_on, committed_of}
use Rattle.runs.specs.Passed.{Waits, Passed, Looped}
use Rattle.runs.proofs.Late.{by-table}
use Rattle.runs.proofs.Steps.{Started, Gives, formless, again, roomless, limited, gives, step_is}

module _ (P : ℕ → Type 0) where
  in-cond : (b : Bool) (x y : ℕ) → P x → P y → P (cond b x y)
  in-cond true x y h k = h
  in-cond false x y h k = k

  pub record Checks : Type 0 where
    pub passed : P 0
    pub bad : P bad_record
    pub round : P round_too_high
    pub list : P list_too_long
    pub leader : P wrong_leader
    pub unknown : P unknown_authority
    pub signature : P invalid_signature
    pub reuse : P authority_reuse
    pub qc : P qc_requires_quorum
    pub tc : P tc_requires_quorum
    pub empty : P empty_tc

  module _ (c : Checks) where
    pub limit-in : (r : List ℕ) (k : Kind) → P (limit_of r k)
    unfolding limit_of
    limit-in r k =
        in-cond (has_empty_tc r k) empty_tc _ c.empty
        (in-cond (any_above signers_max (counts_of r k)) list_too_long _ c.list (in-cond (any_above round_max (rounds_of r k)) round_too_high 0 c.round c.passed))

    pub number_in : (x : std.Result Signers CertificateError) (q : ℕ) → P q → P (number_of x q)
    number_in (Ok s) q h = c.passed
    number_in (Err (AuthorityReuse p)) q h = c.reuse
    number_in (Err (UnknownAuthority p)) q h = c.unknown
    number_in (Err RequiresQuorum) q h = h
    number_in (Err InvalidSignature) q h = c.signature
    number_in (Err Cut) q h = c.bad

    pub author-in : (a : std.Result Stake AuthorError) → P (author_number a)
    author-in (Ok s) = c.passed
    author-in (Err (author.UnknownAuthority p)) = c.unknown
    author-in (Err author.InvalidSignature) = c.signature

    first-in : (a b : ℕ) → P a → P b → P (first a b)
    first-in a b h k = in-cond (eqb a 0) b a k h

    tc-in : (m r : List ℕ) (k : Option BlockTc) → P (tc_number_of m r k)
    tc-in m r None = c.passed
    tc-in m r (Some k) = number_in (tc_check m (quorum_of m) (tc_part r k.at)) tc_requires_quorum c.tc

    pub check-in : (m : List ℕ) (b : Block) (r : List ℕ) (x : std.Result Signers CertificateError) → P (proposal_check m b r x)
    unfolding proposal_check leader_check tc_number
    check-in m b r x =
        first-in _ _
        (in-cond (eqb (leader_of m b.round.0) b.author.0) _ wrong_leader (author-in (author_check m b.author.0 b.verdict)) c.leader)
        (first-in _ _ (number_in x qc_requires_quorum c.qc) (tc-in m r b.tc))

    checked-in : (n : ℕ) (s : State) (o : Outcome) → P n → P o.answer → P (checked n s o).answer
    checked-in n s o h k = cases (eqb n 0)
      where
        cases : (b : Bool) → P (cond b o (refused n s)).answer
        cases true = k
        cases false = h

-- ---- what is counted

one_of : (P : ℕ → Type 0) (n x : ℕ) (xs : List ℕ) → P x → (member n xs ≡ true → P n) → member n (x ∷ xs) ≡ true → P n
unfolding member
one_of P n x xs h rest e = cases (eqb n x) refl e
  where
    cases : (u : Bool) → eqb n x ≡ u → u || member n xs ≡ true → P n
    cases true q e = rw (eqb-true n x q) h
    cases false q e = rest e

module _ (P : ℕ → Type 0) (done : P 0) (reuse : P authority_reuse) (full : P tallies_full) where
  -- what a vote may be answered with
  pub votes-in : P unknown_authority → (n : ℕ) → Votes n → P n
  unfolding member
  votes-in unknown n =
      one_of P n 0 (unknown_authority ∷ authority_reuse ∷ tallies_full ∷ []) done
      (one_of P n unknown_authority (authority_reuse ∷ tallies_full ∷ []) unknown
      (one_of P n authority_reuse (tallies_full ∷ []) reuse (one_of P n tallies_full [] full (λ z. absurd (true≢false (sym z))))))

  -- and a timeout that is counted
  pub tallied-in : (m : List ℕ) (own need : ℕ) (s : State) (round p stake high : ℕ) → P (timeout_tallied m own need s round p stake high).answer
  tallied-in m own need s round p stake high =
      rw (timeout-tallied-is m own need s round p stake high) (cases (timeouts_after s.timeouts round p stake need high) (timeout_added s.timeouts round p stake need))
    where
      cases : (t : List ℕ) (a : Added) → P (after_timeout m own s round t a).answer
      cases t (Err NoRoom) = full
      cases t (Err Used) = reuse
      cases t (Ok None) = done
      cases t (Ok (Some q)) = done

-- ---- 2 and 3

-- no number of a check is 2 or 3
abbrev Apart : ℕ → Type 0
Apart n = (n ≡ 0) ⊎ (16 ≤ n)

apart : Checks Apart
apart =
    record {
      passed = inl refl;
      bad = inr (omega arith);
      round = inr (omega arith);
      list = inr (omega arith);
      leader = inr (omega arith);
      unknown = inr (omega arith);
      signature = inr (omega arith);
      reuse = inr (omega arith);
      qc = inr (omega arith);
      tc = inr (omega arith);
      empty = inr (omega arith);
    }

never : {A : Type 0} (n : ℕ) → Apart n → (n ≡ wait_parent) ⊎ (n ≡ wait_payload) → A
never n a w = absurd (⊎_elim (λ e. ⊎_elim (λ z. omega arith) (λ h. omega arith) a) (λ e. ⊎_elim (λ z. omega arith) (λ h. omega arith) a) w)

module _ (w : World) (e : Event) (t : Stake) (s : Started w t) where
  abbrev check_of : ℕ
  check_of = proposal_check (committee w) (block_of e.bytes) e.bytes (qc_found (committee w) e.bytes)

  refused-answer : (check_of ≡ 0 → ⊥) → (handled w e.bytes Kind.Propose).answer ≡ check_of
  unfolding going_on
  refused-answer h = rw (proposal-refused (committee w) w.state (block_of e.bytes) e.bytes (payload_of e.bytes) h) refl

  -- where P holds of the numbers of checks, it holds of the answer to a PROPOSE that did not pass them
  passed-unless : (P : ℕ → Type 0) → Checks P → P no_room → P started_again → form_of e.bytes ≡ Some Kind.Propose → Passed w e ⊎ P (step_on w e).answer
  passed-unless P c room twice k = cases (rw k at (step_is w e t s))
    where
      at : (x : Result) → step_on w e ≡ x → P x.answer → P (step_on w e).answer
      at x g h = rw g h

      check : roomy (length w.table) e.room ≡ true → limit_of e.bytes Kind.Propose ≡ 0 → step_on w e ≡ handled w e.bytes Kind.Propose → (u : Bool) → eqb check_of 0 ≡ u
          → Passed w e ⊎ P (step_on w e).answer
      check x y g true z = inl (record { kind = k; room = x; limits = y; checks = eqb-true _ 0 z })
      check x y g false z =
          inr (rw (g, refused-answer (eqb-false _ 0 z)) (check-in P c (committee w) (block_of e.bytes) e.bytes (qc_found (committee w) e.bytes)))

      cases : Gives w e (Some Kind.Propose) (step_on w e) → Passed w e ⊎ P (step_on w e).answer
      cases (formless g) = inr (at _ g c.bad)
      cases (again g) = inr (at _ g twice)
      cases (roomless g) = inr (at _ g room)
      cases (limited i h g) = inr (at _ g (limit-in P c e.bytes i))
      cases (gives i h x y g) = let p : i ≡ Kind.Propose = cc in check x (rw p at y) (rw p at g) (eqb check_of 0) refl

  -- A PROPOSE that is answered 2 or 3 passed its checks.
  pub waits-passed : Waits w e → Passed w e
  waits-passed k =
      ⊎_elim
      (λ p. p)
      (λ r. never (step_on w e).answer r k.waits)
      (passed-unless Apart apart (inr (omega arith)) (inr (omega arith)) k.kind)

-- ---- 30 and 31

-- a number that no walk and no lookup of an ancestor gives
abbrev Elsewhere : ℕ → Type 0
Elsewhere n = member n (ancestor_absent ∷ round_not_below ∷ []) ≡ false

elsewhere : Checks Elsewhere
unfolding member
elsewhere =
    record { passed = refl; bad = refl; round = refl; list = refl; leader = refl; unknown = refl; signature = refl; reuse = refl; qc = refl; tc = refl; empty = refl }

votes-elsewhere : (n : ℕ) → Votes n → Elsewhere n
unfolding member
votes-elsewhere n v = votes-in Elsewhere refl refl refl refl n v

payload-elsewhere : (payload : ℕ) → Elsewhere (payload_number payload)
unfolding payload_number member
payload-elsewhere payload = in-cond Elsewhere (eqb payload 1) 0 _ refl (in-cond Elsewhere (eqb payload 0) wait_payload invalid_payload refl refl)

module _ (m : List ℕ) (own : ℕ) (s : State) where
  tallied-elsewhere : (round p stake high : ℕ) → Elsewhere (timeout_tallied m own (quorum_of m) s round p stake high).answer
  unfolding member
  tallied-elsewhere round p stake high = tallied-in Elsewhere refl refl refl m own (quorum_of m) s round p stake high

  own-timeout-elsewhere : Elsewhere (own_timeout m own s).answer
  unfolding own_timeout
  own-timeout-elsewhere =
      checked-in Elsewhere elsewhere (author_number (author_check m own 1)) s _ (author-in Elsewhere elsewhere (author_check m own 1))
      (tallied-elsewhere s.core.round.0 own (stake_of m own) s.core.high_qc.round.0)

-- an event that brings no block has another number
module _ (w : World) (r : List ℕ) where
  abbrev m : List ℕ
  m = committee w

  abbrev own : ℕ
  own = w.seat.own.0

  vote-elsewhere : Elsewhere (handled w r Kind.Vote).answer
  unfolding handled_vote vote_check member
  vote-elsewhere =
      let v = vote_of r in
      let s = w.state in
      checked-in Elsewhere elsewhere (cond (ltb v.round.0 s.core.round.0) stale (author_number (author_check m v.author.0 v.verdict))) s _
      (in-cond Elsewhere (ltb v.round.0 s.core.round.0) stale _ refl (author-in Elsewhere elsewhere (author_check m v.author.0 v.verdict)))
      (votes-elsewhere (vote_tallied m own (quorum_of m) s v.hash v.round.0 v.author.0 (stake_of m v.author.0)).answer
      (tallied-votes m own (quorum_of m) s v.hash v.round.0 v.author.0 (stake_of m v.author.0)))

  timeout-elsewhere : Elsewhere (handled w r Kind.Timeout).answer
  unfolding handled_timeout timeout_with timeout_taken timeout_check member
  timeout-elsewhere =
      let t = timeout_of r in
      let s = w.state in
      let c = embedded_check m (quorum_of m) (qc_part r timeout_qc) in
      let a = author_number (author_check m t.author.0 t.verdict) in
      checked-in Elsewhere elsewhere (first (cond (ltb t.round.0 s.core.round.0) stale a) (number_of c qc_requires_quorum)) s (timeout_taken m own s t (signers_of c))
      (first-in Elsewhere elsewhere (cond (ltb t.round.0 s.core.round.0) stale a) (number_of c qc_requires_quorum)
      (in-cond Elsewhere (ltb t.round.0 s.core.round.0) stale a refl (author-in Elsewhere elsewhere (author_check m t.author.0 t.verdict)))
      (number_in Elsewhere elsewhere c qc_requires_quorum refl))
      (tallied-elsewhere m own _ t.round.0 t.author.0 (stake_of m t.author.0) t.qc_round.0)

  tc-elsewhere : Elsewhere (handled w r Kind.Tc).answer
  unfolding handled_tc tc_with member
  tc-elsewhere =
      let s = w.state in
      let round = tc_round r tc_body in
      let c = tc_check m (quorum_of m) (tc_part r tc_body) in
      checked-in Elsewhere elsewhere (first (number_of c tc_requires_quorum) (stale_if round s.core.round.0)) s (done 0 (tc_taken m own s round (signers_of c) (tc_part r tc_body)))
      (first-in Elsewhere elsewhere (number_of c tc_requires_quorum) (stale_if round s.core.round.0) (number_in Elsewhere elsewhere c tc_requires_quorum refl) (in-cond Elsewhere (ltb round s.core.round.0) stale 0 refl refl))
      refl

  tick-elsewhere : Elsewhere (handled w r Kind.Tick).answer
  unfolding handled_tick member
  tick-elsewhere = cases (ltb round_max w.state.core.round.0)
    where
      cases : (u : Bool) → Elsewhere (cond u (refused round_too_high w.state) (after (ticked w.state) (own_timeout m own))).answer
      cases true = refl
      cases false = own-timeout-elsewhere m own (ticked w.state).state

module _ (w : World) (e : Event) (t : Stake) (s : Started w t) (n : ℕ) (is : (n ≡ ancestor_absent) ⊎ (n ≡ round_not_below)) where
  abbrev b : Block
  b = block_of e.bytes

  stops : (k : ℕ) → k ≡ n → Elsewhere k → ⊥
  unfolding member
  stops k f h =
      ⊎_elim
      (λ (i : n ≡ ancestor_absent). let x : Elsewhere ancestor_absent = subst Elsewhere (f ∙ i) h in true≢false x)
      (λ (i : n ≡ round_not_below). let x : Elsewhere round_not_below = subst Elsewhere (f ∙ i) h in true≢false x)
      is

  -- a block that was treated: the number is the table's
  treated : (u : State) → u.core.last_committed_round ≡ w.state.core.last_committed_round → (processed (committee w) w.seat.own.0 w.table b u).answer ≡ n
      → Stopped w.table (slot_for b) (committed_of w) n
  unfolding settled_for
  treated u same a =
      let k = by-table (committee w) w.seat.own.0 w.table b u n (λ v. stops n refl (votes-elsewhere n v)) a in
      let ne : n ≡ 0 → ⊥ = λ z. ⊎_elim (λ i. omega arith) (λ i. omega arith) is in
      let nw : n ≡ wait_parent → ⊥ = λ z. ⊎_elim (λ i. omega arith) (λ i. omega arith) is in
      let nf : n ≡ table_full → ⊥ = λ z. ⊎_elim (λ i. omega arith) (λ i. omega arith) is in
      rw (ap (λ (x : Round). x.0) same) at (settled-stopped w.table (arrival_for b u.core.last_committed_round 0) n ne nw nf k.0)

  pub record StoppedIn : Type 0 where
    pub brought : Passed w e ⊎ Looped w e
    pub by : Stopped w.table (slot_for b) (committed_of w) n

  by-propose : Passed w e → (step_on w e).answer ≡ n → StoppedIn
  unfolding stepped going_on by_payload
  by-propose p a =
      let x = taken w.state b (signers_of (qc_found (committee w) e.bytes)) in
      let ready = started-ready w.seat w.stakes w.state.votes w.state.timeouts t s in
      let g : step_on w e ≡ handled w e.bytes Kind.Propose = rw (p.kind, s, p.room, p.limits) refl in
      let k = certificates-keep 0 w.state ready.sound.long ready.sound.wide b (signers_of (qc_found (committee w) e.bytes)) in
      let h : (handled w e.bytes Kind.Propose).answer ≡ n = sym (ap (λ (r : Result). r.answer) g) ∙ a in
      record {
        brought = inl p;
        by = cases x k.committed (eqb (payload_of e.bytes) 1) (rw (proposal-takes (committee w) w.state b e.bytes (payload_of e.bytes) p.checks) at h);
      }
    where
      cases : (x : Step) → x.state.core.last_committed_round ≡ w.state.core.last_committed_round → (u : Bool)
          → (cond u (after x (processed (committee w) w.seat.own.0 w.table b)) (by_payload (payload_of e.bytes) x).out).answer ≡ n
          → Stopped w.table (slot_for b) (committed_of w) n
      cases x same true h = treated x.state same h
      cases x same false h = absurd (stops (payload_number (payload_of e.bytes)) h (payload-elsewhere (payload_of e.bytes)))

  by-handled : (k : Kind) → form_of e.bytes ≡ Some k → roomy (length w.table) e.room ≡ true → limit_of e.bytes k ≡ 0 → (handled w e.bytes k).answer ≡ n
      → (step_on w e).answer ≡ n → StoppedIn
  unfolding member
  by-handled Kind.Start f x y h a = absurd (stops _ h refl)
  by-handled Kind.Propose f x y h a =
      ⊎_elim (λ p. by-propose p a) (λ r. absurd (stops (step_on w e).answer a r)) (passed-unless w e t s Elsewhere elsewhere refl refl f)
  by-handled Kind.Vote f x y h a = absurd (stops _ h (vote-elsewhere w e.bytes))
  by-handled Kind.Timeout f x y h a = absurd (stops _ h (timeout-elsewhere w e.bytes))
  by-handled Kind.Tc f x y h a = absurd (stops _ h (tc-elsewhere w e.bytes))
  by-handled Kind.Loopback f x y h a = record { brought = inr (record { kind = f; room = x; limits = y }); by = treated w.state refl h }
  by-handled Kind.Tick f x y h a = absurd (stops _ h (tick-elsewhere w e.bytes))

  -- An event that is answered 30 or 31 brought a block, and this is what it met at the table.
  pub stopped : (step_on w e).answer ≡ n → StoppedIn
  unfolding member
  stopped a = cases (step_is w e t s)
    where
      at : (x : Result) → step_on w e ≡ x → x.answer ≡ n
      at x g = sym (ap (λ (r : Result). r.answer) g) ∙ a

      cases : Gives w e (form_of e.bytes) (step_on w e) → StoppedIn
      cases (formless g) = absurd (stops bad_record (at _ g) refl)
      cases (again g) = absurd (stops started_again (at _ g) refl)
      cases (roomless g) = absurd (stops no_room (at _ g) refl)
      cases (limited i h g) = absurd (stops _ (at _ g) (limit-in Elsewhere elsewhere e.bytes i))
      cases (gives i h x y g) = by-handled i h x y (at _ g) a
