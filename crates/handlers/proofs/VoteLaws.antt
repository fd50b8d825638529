-- Laws of VOTE and of the vote for a block: one for each way out. Assumes nothing.
--     vote-stale, vote-author, vote-member                the checks, and the member whose check is passed
--     vote-refused, vote-passed                           `handle_vote`
--     own-vote-refused, own-vote-passed                   `own_vote`
--     sent-counted, sent                                  `send_vote`
--     voting-past, voting-not, voting-voted               `make_vote`
use Prim.Native.Nat.{ℕ, ◌+◌, ◌≤◌, ◌<◌}
use mathlib.Core.Bool.{Bool, true, false, cond}
use mathlib.Core.List.{List}
use mathlib.Core.Path.{◌≡◌, sym, ◌∙◌}
use native.Mathlib.Omega.{arith}
use borrow.Author.Tests.{eq-eqb, ne_eqb, lt-ltb, le-ltb}
use lib.Dec.{ltb, eqb}
use lib.ListN.{length}
use Rattle.std.specs.Prelude.{Result, Ok, Err}
use Rattle.certificates.specs.declared.numbers.Stake.{Stake}
use Rattle.certificates.specs.declared.error.AuthorError.{AuthorError}
use Rattle.certificates.specs.Config.{stake_of, quorum_of}
use Rattle.certificates.specs.Leader.{leader_of}
use Rattle.certificates.specs.Messages.{author_check}
use Rattle.certificates.specs.declared.error.Refusal.{Refusal}
use Rattle.certificates.specs.Error.{code, number, author_number}
use Rattle.trace.specs.declared.events.Vote.{Vote}
use Rattle.trace.specs.declared.events.Block.{Block}
use Rattle.outputs.specs.Put.{Put}
use Rattle.outputs.specs.Records.{vote, vote_size, enc}
use Rattle.outputs.proofs.Wrote.{wrote_one}
use Rattle.moves.specs.declared.state.Core.{Core}
use Rattle.moves.specs.declared.state.Ran.{Ran}
use Rattle.moves.specs.State.{State, whole, with_voted}
use Rattle.moves.specs.Outcome.{quiet, done, Reached}
use Rattle.moves.specs.Moves.{certify_most}
use Rattle.moves.specs.Tallied.{vote_tallied}
use Rattle.moves.proofs.Outcomes.{did-wrote, reached-refused, reached-after, reached-checked-refused, reached-checked-passed}
use Rattle.handlers.specs.Votes.{vote_check, handled_vote, may_vote, own_vote, voted, voting, voting_most}
use Rattle.handlers.proofs.HandlerLaws.{author-member, answer-no, answer-yes}

-- ---- the checks of VOTE

module _ (m : List ℕ) (current : ℕ) (v : Vote) where
  pub vote-stale : v.round.0 < current → 1 ≡ vote_check m current v
  unfolding vote_check
  vote-stale h = rw (lt-ltb _ _ h)

  module _ {n : ℕ} where
    pub vote-author : {a : Result Stake AuthorError} → current ≤ v.round.0 → a ≡ author_check m v.author.0 v.verdict → n ≡ author_number a → n ≡ vote_check m current v
    unfolding vote_check
    vote-author h e f = rw (le-ltb _ _ h, ← e) f

  from-vote : (b : Bool) (x : ℕ) → cond b 1 x ≡ 0 → x ≡ 0
  from-vote true x e = absurd (omega arith)
  from-vote false x e = e

  pub vote-member : {x : Result Unit Refusal} {u : Unit} → number x ≡ vote_check m current v → x ≡ Ok u → v.author.0 < length m
  unfolding vote_check
  vote-member e z = author-member m v.author.0 v.verdict (from-vote (ltb v.round.0 current) _ (answer-yes e z))

-- ---- VOTE

module _ (m : List ℕ) (own : ℕ) (core : Core) (votes timeouts out : List ℕ) (v : Vote) {x : Result Unit Refusal} (e : number x ≡ vote_check m core.round.0 v) where
  pub vote-refused : {r : Refusal} → x ≡ Err r → Reached certify_most (handled_vote m own (whole core votes timeouts) v) out 0 (record { answer = Err r; core = core; at = 0 }) votes timeouts out
  unfolding handled_vote
  vote-refused {r} h = rw (← answer-no e h) (reached-checked-refused certify_most r core votes timeouts out 0 _)

  pub vote-passed : {u : Unit} {need stake : ℕ} {r : Ran} {v' t' out' : List ℕ} → x ≡ Ok u → need ≡ quorum_of m → stake ≡ stake_of m v.author.0
      → Reached certify_most (vote_tallied m own need (whole core votes timeouts) v.hash v.round.0 v.author.0 stake) out 0 r v' t' out'
      → Reached certify_most (handled_vote m own (whole core votes timeouts) v) out 0 r v' t' out'
  unfolding handled_vote
  vote-passed z q s h = rw (← q, ← s) (reached-checked-passed _ (whole core votes timeouts) (answer-yes e z) h)

-- ---- the own vote

module _ (m : List ℕ) (own : ℕ) (core : Core) (votes timeouts out : List ℕ) (at : ℕ) (b : Block) {a : Result Stake AuthorError} (e : a ≡ author_check m own 1) where
  own-number : {c : Result Stake AuthorError} → a ≡ c → author_number c ≡ author_number (author_check m own 1)
  own-number i = rw (← i, e)

  pub own-vote-refused : {c : AuthorError} {r : Refusal} → a ≡ Err c → code r ≡ author_number (Err c)
      → Reached certify_most (own_vote m own b (whole core votes timeouts)) out at (record { answer = Err r; core = core; at = at }) votes timeouts out
  unfolding own_vote
  own-vote-refused {c} {r} i f = rw (← (f ∙ own-number i)) (reached-checked-refused certify_most r core votes timeouts out at _)

  pub own-vote-passed : {held : Stake} {need stake : ℕ} {r : Ran} {v' t' out' : List ℕ} → a ≡ Ok held → need ≡ quorum_of m → stake ≡ stake_of m own
      → Reached certify_most (vote_tallied m own need (whole core votes timeouts) b.digest b.round.0 own stake) out at r v' t' out'
      → Reached certify_most (own_vote m own b (whole core votes timeouts)) out at r v' t' out'
  unfolding own_vote
  own-vote-passed i q s h = rw (← q, ← s) (reached-checked-passed _ (whole core votes timeouts) (sym (own-number i)) h)

-- ---- VOTE is written

module _ (m : List ℕ) (own : ℕ) (core : Core) (votes timeouts : List ℕ) (b : Block) {out out' : List ℕ} {at end l : ℕ}
    (e : l ≡ leader_of m (b.round.0 + 1)) (p : Put out at vote_size (enc (vote l b.digest b.round.0)) out' end) where
  -- VOTE is written; then this was reached
  after-sent : {r : Ran} {v' t' out'' : List ℕ}
      → Reached certify_most (cond (eqb l own) (own_vote m own b (whole (with_voted core b.round.0) votes timeouts)) (done 0 (quiet (whole (with_voted core b.round.0) votes timeouts)))) out' end r v' t' out''
      → Reached voting_most (voted m own b (whole core votes timeouts)) out at r v' t' out''
  unfolding voted
  after-sent q =
      rw (← e)
      (reached-after (λ (t : State). cond (eqb l own) (own_vote m own b t) (done 0 (quiet t)))
      (did-wrote (with_voted core b.round.0) votes timeouts (wrote_one (vote l b.digest b.round.0) p)) q)

  pub sent-counted : {r : Ran} {v' t' out'' : List ℕ} → l ≡ own
      → Reached certify_most (own_vote m own b (whole (with_voted core b.round.0) votes timeouts)) out' end r v' t' out''
      → Reached voting_most (voted m own b (whole core votes timeouts)) out at r v' t' out''
  sent-counted h q = after-sent (rw (eq-eqb _ _ h) q)

  pub sent : (l ≡ own → ⊥)
      → Reached voting_most (voted m own b (whole core votes timeouts)) out at (record { answer = Ok tt; core = with_voted core b.round.0; at = end }) votes timeouts out'
  sent h = after-sent (rw (ne_eqb _ _ h) (reached-refused certify_most (Ok tt) (with_voted core b.round.0) votes timeouts out' end))

-- ---- the vote for a block

module _ (m : List ℕ) (own : ℕ) (core : Core) (votes timeouts out : List ℕ) (at : ℕ) (b : Block) where
  pub voting-past : (b.round.0 ≡ core.round.0 → ⊥) → Reached voting_most (voting m own b (whole core votes timeouts)) out at (record { answer = Ok tt; core = core; at = at }) votes timeouts out
  unfolding voting
  voting-past h = rw (ne_eqb _ _ h) (reached-refused voting_most (Ok tt) core votes timeouts out at)

  module _ (now : b.round.0 ≡ core.round.0) {t : Bool} (e : t ≡ may_vote core b) where
    pub voting-not : t ≡ false → Reached voting_most (voting m own b (whole core votes timeouts)) out at (record { answer = Ok tt; core = core; at = at }) votes timeouts out
    unfolding voting
    voting-not h = rw (eq-eqb _ _ now, ← e, h) (reached-refused voting_most (Ok tt) core votes timeouts out at)

    pub voting-voted : {r : Ran} {v' t' out' : List ℕ} → t ≡ true → Reached voting_most (voted m own b (whole core votes timeouts)) out at r v' t' out'
        → Reached voting_most (voting m own b (whole core votes timeouts)) out at r v' t' out'
    unfolding voting
    voting-voted h q = rw (eq-eqb _ _ now, ← e, h) q
