-- What holds of a replica's state in every run, and of what it writes; and what each move keeps of it. m is the committee, g what is known of who signed.
-- Assumes nothing.
--     Signatures, unknown      who signed which votes and timeouts, as far as it is known; nothing is known
--     Every P rs               P holds of every record of the list rs
--     Backs m g h n            a quorum of members with stake, each of which signed a vote for the hash h and the round n
--     Closes m g t names highs      the names are such a quorum, each of which signed a timeout of the round t with its high round
--     Backed m g q             the QC q is genesis, or its signers back it
--     Kept m g s               what holds of a state
--     Makes m g c a            a TC closes its round; the QC of a MAKE is the high QC of c, and its TC is of a round that c has passed
--     Writes m g c a           what holds of a record a of a step that leaves c: that, and its certificates pass the check
--     Good m g a               a step that leaves such a state, and writes such records
--     Begins m g a             such a step without a MAKE, so that any other may follow it
--     MayTake m g q            the QC q may be taken
--     begins-.., good-..       each of the moves
--     vote-quorate, timeout-quorate     what a tally gives out is a quorum of members with stake
--     high-backs               a high QC other than genesis is backed
--     kept_new, kept-emptied, writes-announced     after START; with empty tallies; what START writes
use Prim.Native.Nat.{ℕ, ◌+◌, ◌≤◌, ◌<◌}
use mathlib.Core.Bool.{Bool, true, false, cond}
use mathlib.Core.List.{List, [], ◌∷◌, ◌++◌}
use mathlib.Core.Path.{◌≡◌, refl, sym, ◌∙◌}
use native.Mathlib.Omega.{arith}
use borrow.Author.Tests.{ltb-true, ltb-false}
use lib.Dec.{ltb}
use lib.ListN.{length, get_or, replicate, length-replicate}
use Rattle.std.specs.Prelude.{None, Some, Ok, Err}
use Rattle.aggregator.specs.declared.tallies.AddError.TheVariants.{NoRoom, Used}
use Rattle.certificates.specs.declared.numbers.Hash.{Hash}
use Rattle.certificates.specs.declared.numbers.Signers.{Signers}
use Rattle.certificates.specs.declared.messages.QC.{QC}
use Rattle.certificates.specs.Config.{stake_of, quorum_of}
use Rattle.certificates.specs.Numbers.{zero_hash}
use Rattle.certificates.specs.Signers.{is_in, words}
use Rattle.certificates.specs.Messages.{is_genesis}
use Rattle.certificates.proofs.Check.{Known}
use Rattle.outputs.specs.Records.{Rec, vote, timeout, tc, make, make_with, commit, sync, clean_proposer, clean_mempool, timer_reset, answer}
use Rattle.aggregator.specs.Rows.{row}
use Rattle.aggregator.specs.Tally.{fields, vote_width, timeout_width, round_of, hash_of, new_vote, new_timeout, signers, Added, quorum_at}
use Rattle.aggregator.specs.Tallies.{vote_tallies, timeout_tallies, votes_length, timeouts_length, vote_added, votes_after, timeout_added, timeouts_after, highs_at}
use Rattle.aggregator.proofs.TallyLaws.{vote-kind, timeout-kind, author-round, author-hash, author-high, author-highs, vote-is, timeout-is}
use Rattle.aggregator.proofs.TableLaws.{Each, each-dropped, each-zeros}
use Rattle.aggregator.proofs.Additions.{vote-addition, timeout-addition, addition-each, counted-passes}
use Rattle.aggregator.proofs.Laws.{dropped-length, votes-after-length, timeouts-after-length, vote-full, timeout-full, highs-row}
use Rattle.moves.specs.declared.state.Core.{Core}
use Rattle.moves.specs.State.{State, whole, with_votes, with_timeouts, with_core}
use Rattle.moves.specs.Outcome.{Step, quiet, and_then}
use Rattle.moves.specs.Moves.{advanced, raised, taken_qc, leads, make_of, make_with_of, certified, tc_outs, timed_out}
use Rattle.moves.specs.Tallied.{qc_of, after_vote, vote_tallied, after_timeout, timeout_tallied}
use Rattle.moves.proofs.MoveLaws.{advanced-below, advanced-at, raised-above, raised-not, taken_is, certified-is, timed-out-is}
use Rattle.moves.proofs.TallyLaws.{vote-tallied-is, timeout-tallied-is}
use Rattle.replica.specs.Step.{new_core, new_state, announced}
use Rattle.runs.specs.Runs.{Written}
use Rattle.runs.specs.Signed.{Sends, GoodQC}
use Rattle.runs.proofs.Plain.{advanced-above}
use Rattle.runs.proofs.Tallied.{Quorate, Tallied, tallied-new, tallied-more, filled-quorate, filled-signed}
use Rattle.runs.proofs.Certificates.{genesis-good, quorate-good, quorate-tc}

-- ---- who signed

pub record Signatures : Type 1 where
  -- the place signed a vote for this hash and this round
  pub votes : ℕ → Hash → ℕ → Type 0
  -- the place signed a timeout of this round, with a high QC of that round
  pub expires : ℕ → ℕ → ℕ → Type 0

-- nothing is known, so what holds then holds whatever the results of signature checks are
abbrev pub unknown : Signatures
unknown = record { votes = λ p h n. Unit {0}; expires = λ p t h. Unit {0} }

-- the place signed what a tally of votes counts, and what a tally of timeouts counts
abbrev pub VotesIn : Signatures → List ℕ → ℕ → Type 0
VotesIn g t p = g.votes p (hash_of t) (round_of t)

abbrev pub ExpiresIn : Signatures → List ℕ → ℕ → Type 0
ExpiresIn g t p = g.expires p (round_of t) (get_or t (fields + p) 0)

-- ---- records

-- P holds of every record of a list
pub data Every (P : Rec → Type 0) : List Rec → Type 0 where
  none : Every P []
  more : {a : Rec} {rs : List Rec} → P a → Every P rs → Every P (a ∷ rs)

pub every_append : {P : Rec → Type 0} {xs ys : List Rec} → Every P xs → Every P ys → Every P (xs ++ ys)
every_append none q = q
every_append (more h p) q = more h (every_append p q)

pub every_map : {P Q : Rec → Type 0} {rs : List Rec} → ((a : Rec) → P a → Q a) → Every P rs → Every Q rs
every_map f none = none
every_map f (more {a = a} h p) = more (f a h) (every_map f p)

pub every-written : (P : Rec → Type 0) {rs : List Rec} {a : Rec} → Every P rs → Written a rs → P a
every-written P {rs} {a} e w = there w.before (rw w.is at e)
  where
    there : (xs : List Rec) → Every P (xs ++ (a ∷ w.rest)) → P a
    there [] (more h p) = h
    there (x ∷ xs) (more h p) = there xs p

pub genesis-new : is_genesis zero_hash 0 ≡ true
unfolding is_genesis
genesis-new = refl

module _ (m : List ℕ) (g : Signatures) where
  -- ---- certificates

  pub record Backs (h : Hash) (n : ℕ) : Type 0 where
    pub names : Signers
    pub quorum : Quorate m names
    pub signed : (p : ℕ) → is_in (words names) p ≡ 1 → g.votes p h n

  pub record Closes (t : ℕ) (names : Signers) (highs : List ℕ) : Type 0 where
    pub quorum : Quorate m names
    pub signed : (p : ℕ) → is_in (words names) p ≡ 1 → g.expires p t (get_or highs p 0)

  pub data Backed (q : QC) : Type 0 where
    first : q ≡ new_core.high_qc → Backed q
    backed : Quorate m q.signers → ((p : ℕ) → is_in (words q.signers) p ≡ 1 → g.votes p q.hash q.round.0) → Backed q

  pub backed-good : (q : QC) → Backed q → GoodQC m q
  backed-good q (first e) = rw e (genesis-good m)
  backed-good q (backed k s) = quorate-good m q k

  pub backed-backs : (q : QC) → Backed q → is_genesis q.hash q.round.0 ≡ false → Backs q.hash q.round.0
  backed-backs q (first e) f =
      absurd (let x : is_genesis zero_hash 0 ≡ false = rw e at f in let y : ◌≡◌ {A = Bool} true false = sym genesis-new ∙ x in let z : ◌≡◌ {A = ℕ} 0 1 = cc in omega arith)
  backed-backs q (backed k s) f = record { names = q.signers; quorum = k; signed = s }

  -- ---- what holds

  pub record Kept (s : State) : Type 0 where
    -- the tables of tallies have their sizes
    pub long : length s.votes ≡ votes_length
    pub wide : length s.timeouts ≡ timeouts_length
    -- in every tally in use the names are members with stake that signed, and the weight is their stake until its certificate was given out
    pub votes : Each (Tallied m (VotesIn g)) vote_width vote_tallies s.votes
    pub timeouts : Each (Tallied m (ExpiresIn g)) timeout_width timeout_tallies s.timeouts
    -- the high QC is genesis, or a quorum of members with stake signed it
    pub high : Backed s.core.high_qc
    -- its round is below the round
    pub below : s.core.high_qc.round.0 < s.core.round.0
    -- last voted is at most the round
    pub voted : s.core.last_voted_round.0 ≤ s.core.round.0

  abbrev pub Makes : Core → Rec → Type 0
  Makes c (vote to hash round) = Unit {0}
  Makes c (timeout round high) = Unit {0}
  Makes c (tc round names highs) = Closes round (signers names) highs
  Makes c (make round high) = high ≡ c.high_qc
  Makes c (make_with round high of names highs) = (high ≡ c.high_qc) × Closes of (signers names) highs × (of < c.round.0)
  Makes c (commit digest round) = Unit {0}
  Makes c (sync parent block author) = Unit {0}
  Makes c (clean_proposer b0 b1 block) = Unit {0}
  Makes c (clean_mempool round) = Unit {0}
  Makes c timer_reset = Unit {0}
  Makes c (answer n) = Unit {0}

  pub record Writes (c : Core) (a : Rec) : Type 0 where
    pub sends : Sends m a
    pub makes : Makes c a

  pub record Good (a : Step) : Type 0 where
    pub state : Kept a.state
    pub outs : Every (Writes a.state.core) a.outs

  pub record Begins (a : Step) : Type 0 where
    pub state : Kept a.state
    pub outs : (c : Core) → Every (Writes c) a.outs

  -- a QC may be taken: one whose round is not 0 is backed
  abbrev pub MayTake : QC → Type 0
  MayTake q = 0 < q.round.0 → Backed q

  -- a high QC other than genesis is backed
  pub high-backs : {s : State} → Kept s → let q = s.core.high_qc in is_genesis q.hash q.round.0 ≡ false → Backs q.hash q.round.0
  high-backs {s} k = backed-backs s.core.high_qc k.high

  -- ---- steps

  pub good-quiet : {s : State} → Kept s → Good (quiet s)
  good-quiet k = record { state = k; outs = none }

  pub begins-good : {a : Step} → Begins a → Good a
  begins-good {a} b = record { state = b.state; outs = b.outs a.state.core }

  pub good-then : {a : Step} (f : State → Step) → Begins a → (Kept a.state → Good (f a.state)) → Good (and_then a f)
  good-then {a} f b h = let n = h b.state in record { state = n.state; outs = every_append (b.outs (f a.state).state.core) n.outs }

  pub begins-quiet : {s : State} → Kept s → Begins (quiet s)
  begins-quiet k = record { state = k; outs = λ c. none }

  pub begins-then : {a : Step} (f : State → Step) → Begins a → (Kept a.state → Begins (f a.state)) → Begins (and_then a f)
  begins-then f b h = let n = h b.state in record { state = n.state; outs = λ c. every_append (b.outs c) (n.outs c) }

  -- the part by value changes
  pub kept-core : {s : State} → Kept s → (c : Core) → Backed c.high_qc → c.high_qc.round.0 < c.round.0 → c.last_voted_round.0 ≤ c.round.0 → Kept (with_core s c)
  kept-core k c h b v = record { long = k.long; wide = k.wide; votes = k.votes; timeouts = k.timeouts; high = h; below = b; voted = v }

  -- ---- START, and empty tallies

  kept-zeros : (c : Core) → Backed c.high_qc → c.high_qc.round.0 < c.round.0 → c.last_voted_round.0 ≤ c.round.0
      → Kept (whole c (replicate votes_length 0) (replicate timeouts_length 0))
  kept-zeros c h b v =
      record {
        long = length-replicate {A = ℕ} votes_length 0;
        wide = length-replicate {A = ℕ} timeouts_length 0;
        votes = each-zeros (Tallied m (VotesIn g)) vote_width vote_tallies votes_length (omega arith);
        timeouts = each-zeros (Tallied m (ExpiresIn g)) timeout_width timeout_tallies timeouts_length (omega arith);
        high = h;
        below = b;
        voted = v;
      }

  pub kept_new : Kept new_state
  kept_new = kept-zeros new_core (first refl) (omega arith) (omega arith)

  pub kept-emptied : {s : State} → Kept s → Kept (whole s.core (replicate votes_length 0) (replicate timeouts_length 0))
  kept-emptied {s} k = kept-zeros s.core k.high k.below k.voted

  -- ---- advance, take

  pub begins-advanced : {s : State} → Kept s → (r : ℕ) → Begins (advanced s r)
  begins-advanced {s} k r = cases (ltb r s.core.round.0) refl
    where
      cases : (b : Bool) → ltb r s.core.round.0 ≡ b → Begins (advanced s r)
      cases true e = rw (advanced-below s r (ltb-true _ _ e)) (begins-quiet k)
      cases false e =
          rw (advanced-at s r (ltb-false _ _ e))
          (record {
            state = record {
              long = dropped-length vote_width vote_tallies s.votes (r + 1) ∙ k.long;
              wide = dropped-length timeout_width timeout_tallies s.timeouts (r + 1) ∙ k.wide;
              votes = each-dropped (Tallied m (VotesIn g)) vote_width vote_tallies s.votes (r + 1) (omega (arith, k.long)) k.votes;
              timeouts = each-dropped (Tallied m (ExpiresIn g)) timeout_width timeout_tallies s.timeouts (r + 1) (omega (arith, k.wide)) k.timeouts;
              high = k.high;
              below = omega (arith, k.below, ltb-false r s.core.round.0 e);
              voted = omega (arith, k.voted, ltb-false r s.core.round.0 e);
            };
            outs = λ c. more (record { sends = tt; makes = tt }) none;
          })

  kept-raised : {s : State} → Kept s → (q : QC) → MayTake q → q.round.0 < s.core.round.0 → Kept (with_core s (raised s.core q))
  kept-raised {s} k q t h = cases (ltb s.core.high_qc.round.0 q.round.0) refl
    where
      cases : (b : Bool) → ltb s.core.high_qc.round.0 q.round.0 ≡ b → Kept (with_core s (raised s.core q))
      cases true e = rw (raised-above s.core q (ltb-true _ _ e)) (kept-core k _ (t (omega (arith, ltb-true s.core.high_qc.round.0 q.round.0 e))) h k.voted)
      cases false e = rw (raised-not s.core q (ltb-false _ _ e)) k

  pub begins-taken : {s : State} → Kept s → (q : QC) → MayTake q → Begins (taken_qc s q)
  begins-taken {s} k q t =
      rw (taken_is s q)
      (begins-then (λ (u : State). quiet (with_core u (raised u.core q))) (begins-advanced k q.round.0)
      (λ n. begins-quiet (kept-raised n q t (advanced-above s q.round.0))))

  -- ---- MAKE

  writes-make : (own : ℕ) {s : State} → Kept s → Every (Writes s.core) (make_of m own s.core)
  unfolding make_of
  writes-make own {s} k = cases (leads m own s.core)
    where
      cases : (b : Bool) → Every (Writes s.core) (cond b (make s.core.round.0 s.core.high_qc ∷ []) [])
      cases true = more (record { sends = backed-good s.core.high_qc k.high; makes = refl }) none
      cases false = none

  pub writes-make-with : (own : ℕ) {s : State} → Kept s → (of : ℕ) (names : Signers) (highs : List ℕ) → Closes of names highs → of < s.core.round.0
      → Every (Writes s.core) (make_with_of m own s.core of names.0 highs)
  unfolding make_with_of
  writes-make-with own {s} k of names highs c l = cases (leads m own s.core)
    where
      cases : (b : Bool) → Every (Writes s.core) (cond b (make_with s.core.round.0 s.core.high_qc of names.0 highs ∷ []) [])
      cases true =
          more {a = make_with s.core.round.0 s.core.high_qc of names.0 highs}
          (record { sends = (backed-good s.core.high_qc k.high, quorate-tc m of names highs c.quorum); makes = (refl, c, l) }) none
      cases false = none

  -- what START writes
  pub writes-announced : (own : ℕ) → Every (Writes new_core) (announced m own new_core)
  unfolding announced
  writes-announced own = more (record { sends = tt; makes = tt }) (writes-make own kept_new)

  good-certified : (own : ℕ) {s : State} → Kept s → (q : QC) → MayTake q → Good (certified m own s q)
  good-certified own {s} k q t =
      rw (certified-is m own s q)
      (good-then (λ (u : State). record { state = u; outs = make_of m own u.core }) (begins-taken k q t) (λ n. record { state = n; outs = writes-make own n }))

  writes-tc : (own : ℕ) {s : State} → Kept s → (round : ℕ) (names : Signers) (highs : List ℕ) → Closes round names highs → round < s.core.round.0
      → Every (Writes s.core) (tc_outs m own s.core round names.0 highs)
  unfolding tc_outs
  writes-tc own k round names highs c l =
      more {a = tc round names.0 highs} (record { sends = quorate-tc m round names highs c.quorum; makes = c }) (writes-make-with own k round names highs c l)

  good-timed-out : (own : ℕ) {s : State} → Kept s → (round : ℕ) (names : Signers) (highs : List ℕ) → Closes round names highs → Good (timed_out m own s round names.0 highs)
  good-timed-out own {s} k round names highs c =
      rw (timed-out-is m own s round names.0 highs)
      (good-then (λ (u : State). record { state = u; outs = tc_outs m own u.core round names.0 highs }) (begins-advanced k round)
      (λ n. record { state = n; outs = writes-tc own n round names highs c (advanced-above s round) }))

  -- ---- tallies

  module _ {s : State} (k : Kept s) (p : ℕ) (who : Known m p) where
    -- a QC that a tally of votes makes: members with stake, and a quorum
    pub vote-quorate : (hash : Hash) (round : ℕ) {i : ℕ} {q : Signers} → vote_added s.votes round hash p (stake_of m p) (quorum_of m) ≡ quorum_at i q → Quorate m q
    vote-quorate hash round e =
        filled-quorate m (VotesIn g) (vote-kind round hash) p who (vote-full s.votes round hash p (stake_of m p) (quorum_of m) k.long e) k.votes

    -- a TC that a tally of timeouts makes, likewise
    pub timeout-quorate : (round high : ℕ) {i : ℕ} {q : Signers} → timeout_added s.timeouts round p (stake_of m p) (quorum_of m) ≡ quorum_at i q → Quorate m q
    timeout-quorate round high e =
        filled-quorate m (ExpiresIn g) (timeout-kind round p high) p who (timeout-full s.timeouts round p (stake_of m p) (quorum_of m) high k.wide e) k.timeouts

    -- L8: a new name is that of one that signed
    module _ (hash : Hash) (round : ℕ) (signed : g.votes p hash round) where
      abbrev votes-left : List ℕ
      votes-left = votes_after s.votes round hash p (stake_of m p) (quorum_of m)

      kept-votes : Kept (with_votes s votes-left)
      kept-votes =
          let kind = vote-kind round hash in
          record {
            long = votes-after-length s.votes round hash p (stake_of m p) (quorum_of m) k.long;
            wide = k.wide;
            votes = addition-each (Tallied m (VotesIn g)) kind (vote-addition s.votes round hash p (stake_of m p) (quorum_of m) k.long) k.votes
                (tallied-new m (VotesIn g) (new_vote round hash) kind.weight kind.names)
                (λ t l x y z.
                let of = author-hash t p (stake_of m p) (quorum_of m) in
                let at = author-round kind.marks t p (stake_of m p) (quorum_of m) in
                tallied-more m (VotesIn g) kind p who t l y z
                (rw (VotesIn, of, at, (vote-is round hash t x).0, (vote-is round hash t x).1) signed) (λ q n v. rw (VotesIn, of, at) v));
            timeouts = k.timeouts;
            high = k.high;
            below = k.below;
            voted = k.voted;
          }

      -- what a tally of votes gives out backs its hash and round
      vote-backed : {i : ℕ} {q : Signers} → vote_added s.votes round hash p (stake_of m p) (quorum_of m) ≡ quorum_at i q → Backed (qc_of hash round q)
      vote-backed {i} e =
          let f = vote-full s.votes round hash p (stake_of m p) (quorum_of m) k.long e in
          let is = vote-is round hash (row vote_width votes-left i) (counted-passes (vote-kind round hash) f.counted) in
          backed (vote-quorate hash round e) (λ j b. rw (VotesIn, is.0, is.1) at (filled-signed m (VotesIn g) (vote-kind round hash) p who f kept-votes.votes j b))

      pub good-vote : (own : ℕ) → Good (vote_tallied m own (quorum_of m) s hash round p (stake_of m p)).left
      good-vote own = rw (vote-tallied-is m own (quorum_of m) s hash round p (stake_of m p)) (cases (vote_added s.votes round hash p (stake_of m p) (quorum_of m)) refl)
        where
          cases : (a : Added) → vote_added s.votes round hash p (stake_of m p) (quorum_of m) ≡ a → Good (after_vote m own s hash round votes-left a).left
          cases (Err NoRoom) e = good-quiet k
          cases (Err Used) e = good-quiet k
          cases (Ok None) e = good-quiet kept-votes
          cases (Ok (Some q)) e = good-certified own kept-votes (qc_of hash round q.signers) (λ h. vote-backed e)

    module _ (round high : ℕ) (signed : g.expires p round high) where
      abbrev timeouts-left : List ℕ
      timeouts-left = timeouts_after s.timeouts round p (stake_of m p) (quorum_of m) high

      kept-timeouts : Kept (with_timeouts s timeouts-left)
      kept-timeouts =
          let kind = timeout-kind round p high in
          record {
            long = k.long;
            wide = timeouts-after-length s.timeouts round p (stake_of m p) (quorum_of m) high k.wide;
            votes = k.votes;
            timeouts = addition-each (Tallied m (ExpiresIn g)) kind (timeout-addition s.timeouts round p (stake_of m p) (quorum_of m) high k.wide) k.timeouts
                (tallied-new m (ExpiresIn g) (new_timeout round) kind.weight kind.names)
                (λ t l x y z.
                let at = author-round kind.marks t p (stake_of m p) (quorum_of m) in
                tallied-more m (ExpiresIn g) kind p who t l y z
                (rw (ExpiresIn, at, timeout-is round t x, author-high t p (stake_of m p) (quorum_of m) high (omega (arith, who.small))) signed)
                (λ q n v. rw (ExpiresIn, at, author-highs t p (stake_of m p) (quorum_of m) high q n) v));
            high = k.high;
            below = k.below;
            voted = k.voted;
          }

      -- what a tally of timeouts gives out closes its round, with the high rounds of its row
      timeout-closes : {i : ℕ} {q : Signers} → timeout_added s.timeouts round p (stake_of m p) (quorum_of m) ≡ quorum_at i q → Closes round q (highs_at timeouts-left i)
      timeout-closes {i} e =
          let f = timeout-full s.timeouts round p (stake_of m p) (quorum_of m) high k.wide e in
          let is = timeout-is round (row timeout_width timeouts-left i) (counted-passes (timeout-kind round p high) f.counted) in
          record {
            quorum = timeout-quorate round high e;
            signed = λ j b. rw (highs-row timeouts-left i j) (rw (ExpiresIn, is) at (filled-signed m (ExpiresIn g) (timeout-kind round p high) p who f kept-timeouts.timeouts j b));
          }

      pub good-timeout : (own : ℕ) → Good (timeout_tallied m own (quorum_of m) s round p (stake_of m p) high).left
      good-timeout own = rw (timeout-tallied-is m own (quorum_of m) s round p (stake_of m p) high) (cases (timeout_added s.timeouts round p (stake_of m p) (quorum_of m)) refl)
        where
          cases : (a : Added) → timeout_added s.timeouts round p (stake_of m p) (quorum_of m) ≡ a → Good (after_timeout m own s round timeouts-left a).left
          cases (Err NoRoom) e = good-quiet k
          cases (Err Used) e = good-quiet k
          cases (Ok None) e = good-quiet kept-timeouts
          cases (Ok (Some q)) e = good-timed-out own kept-timeouts round q.signers (highs_at timeouts-left q.row) (timeout-closes e)
