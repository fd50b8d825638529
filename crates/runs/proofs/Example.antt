-- Nothing here is vacuous: a committee of four, one of whom breaks the rules, and the courses of the other three, never cut, from bytes. They meet every premise of
-- `one-digest`, and each delivers a block. By computation.
--     start_bytes, propose_bytes, loopback_bytes, vote_bytes  records
--     run_of p                             the course of place p
--     outputs0, outputs1, outputs2         all that each of the three writes
--     four                                 the members, with their courses
--     certificate1, wider1, certificate2   certificates of rounds 1 and 2 that meet every premise, two of them for one round
--     delivers                             each member that obeys delivers block 1
--     committed-above                      why the invariant does not say that last committed is below the round
use Prim.Native.Nat.{ℕ, zero, suc, ◌%◌, ◌<◌}
use mathlib.Core.Bool.{Bool, true, false, ◌||◌}
use mathlib.Core.List.{List, [], ◌∷◌, ◌++◌}
use mathlib.Core.Logic.{◌⊎◌, inl, inr}
use mathlib.Core.Path.{◌≡◌, refl}
use native.Mathlib.Omega.{arith}
use borrow.Author.Tests.{eqb-true}
use lib.Dec.{eqb}
use lib.ListN.{replicate, take, drop}
use lib.Count.{ones}
use Rattle.certificates.specs.declared.numbers.Hash.{Hash}
use Rattle.certificates.specs.declared.messages.QC.{QC}
use Rattle.certificates.specs.Config.{sum, stake_of, quorum_from, quorum_of, limited, setup_of}
use Rattle.certificates.specs.Leader.{leader_of}
use Rattle.certificates.specs.Messages.{is_genesis, verdict_in, count_of, places_in, is_whole, unknown_to, settled_of as settled_list, check_from, check_part, qc_check, equals_genesis, embedded_check, author_check}
use Rattle.certificates.specs.Num.{le, num_at, hash_at, nums_at}
use Rattle.certificates.specs.Signers.{bit_of, sum_at, is_in, stake_in, signers_from, signers_of, weight_of, member, stake_on}
use Rattle.certificates.specs.Start.{member_count, own_place, stakes_in, key_at, keys_from, keys_in, below, ascending, setup_at, padded, loaded_stakes}
use Rattle.trace.specs.Fields.{vote_of, block_tc_of, block_of}
use Rattle.trace.specs.Form.{block_marks, any_above, is_formed, form_of}
use Rattle.trace.specs.Layout.{qc_part, flag_at, tc_at, block_end, payload_of}
use Rattle.trace.specs.Limits.{block_counts, block_rounds, limit_of}
use Rattle.outputs.specs.Fields.{number, hash, digits, hash_bytes, bytes_of}
use Rattle.outputs.specs.Records.{Rec, vote, make, commit, clean_proposer, clean_mempool, timer_reset, places_from, places_of}
use Rattle.aggregator.specs.Tallies.{find_row, find_free, find_heavy, heavy, dropped, place_for, table_for, added, after, vote_added, votes_after}
use Rattle.aggregator.specs.Tally.{is_vote, kept, new_vote, no_high, with_author, answer_of}
use Rattle.synchronizer.specs.Table.{blank, fits, lowest, place_of, stored, cleared, parent_of, ancestors_of}
use Rattle.synchronizer.specs.Settle.{is_two_chain, clean_of, commit_if, linked_of, processed_by, wait_of, settled_of}
use Rattle.synchronizer.specs.Walk.{on_parent, walk_from, walk_of, commit_of}
use Rattle.moves.specs.Moves.{advanced, raised, taken_qc, make_of, certified}
use Rattle.moves.specs.Tallied.{vote_tallied}
use Rattle.handlers.specs.Proposals.{leader_check, tc_number, proposal_check, advanced_tc, taken, payload_number, by_payload, proposal_with, proposal_of}
use Rattle.handlers.specs.Votes.{vote_check, handled_vote, extends, may_vote, own_vote, voted, voting}
use Rattle.replica.specs.Step.{World, new_core, committee, new_stakes, announced, begun, stepped}
use Rattle.replica.specs.Blocks.{settled_for, after_settled, processed, processed_table, going_on, going_on_table}
use Rattle.replica.specs.Started.{sized, shaped, started_of, roomy}
use Rattle.runs.specs.Runs.{Event, Begun, Written, round_of, committed_of}
use Rattle.runs.specs.Courses.{world_after, outs_of, Course, origin, end, outputs, uncut}
use Rattle.runs.specs.Signed.{Members, Sits, Signed, Certificate, qc_bytes}

-- every definition that a step rests on: who unfolds this one unfolds them all
pub definitions : ℕ
unfolding sum stake_of quorum_from quorum_of limited setup_of leader_of is_genesis verdict_in count_of places_in is_whole unknown_to settled_list check_from check_part qc_check equals_genesis embedded_check author_check le num_at hash_at nums_at bit_of sum_at is_in stake_in signers_from signers_of weight_of member stake_on member_count own_place stakes_in key_at keys_from keys_in below ascending setup_at padded loaded_stakes vote_of block_tc_of block_of block_marks any_above is_formed form_of qc_part flag_at tc_at block_end payload_of block_counts block_rounds limit_of digits hash_bytes bytes_of places_from places_of find_row find_free find_heavy heavy dropped place_for table_for added after vote_added votes_after is_vote kept new_vote no_high with_author answer_of is_two_chain clean_of commit_if linked_of processed_by wait_of settled_of fits lowest place_of stored cleared parent_of ancestors_of on_parent walk_from walk_of commit_of advanced raised taken_qc make_of certified vote_tallied leader_check tc_number proposal_check advanced_tc taken payload_number by_payload proposal_with proposal_of vote_check handled_vote extends may_vote own_vote voted voting settled_for after_settled processed processed_table going_on going_on_table sized shaped started_of roomy new_stakes announced begun stepped world_after outs_of uncut qc_bytes ones
definitions = 0

-- ---- records

abbrev pub digest : ℕ → Hash
digest n = record { a = n; b = 0; c = 0; d = 0 }

-- a QC for the block of round n, by a word of signers
abbrev pub qc : ℕ → ℕ → QC
qc n word = record { hash = digest n; round = record { 0 = n }; signers = record { 0 = word } }

abbrev pub genesis : QC
genesis = new_core.high_qc

-- START: four members with stake 1
pub start_bytes : ℕ → List ℕ
start_bytes own =
    bytes_of (number 2 1 ∷ number 2 4 ∷ number 2 own ∷ hash (digest 0) ∷ number 4 1 ∷ hash (digest 1) ∷ number 4 1 ∷ hash (digest 2) ∷ number 4 1
    ∷ hash (digest 3) ∷ number 4 1 ∷ [])

-- the block of round n, by its leader, on the QC q
pub block_bytes : ℕ → QC → List ℕ
block_bytes n q = bytes_of (hash (digest n) ∷ number 2 (n % 4) ∷ number 8 n ∷ number 1 1 ∷ []) ++ (qc_bytes q ++ (0 ∷ []))

pub propose_bytes : ℕ → QC → List ℕ
unfolding block_bytes
propose_bytes n q = 2 ∷ 0 ∷ (block_bytes n q ++ (1 ∷ []))

pub loopback_bytes : ℕ → QC → List ℕ
unfolding block_bytes
loopback_bytes n q = 6 ∷ 0 ∷ block_bytes n q

-- a vote of p for the block of round n
pub vote_bytes : ℕ → ℕ → List ℕ
vote_bytes n p = bytes_of (number 2 3 ∷ hash (digest n) ∷ number 8 n ∷ number 2 p ∷ number 1 1 ∷ [])

pub event : List ℕ → Event
event r = record { room = 4096; bytes = r }

-- ---- runs

-- memory before START: a table of four slots
pub lent : World
lent =
    record {
      seat = record { count = 0; own = record { 0 = 0 } };
      stakes = replicate 64 0;
      state = record { core = new_core; votes = replicate 256 0; timeouts = replicate 1088 0 };
      table = replicate 4 blank;
    }

pub begun0 : Begun lent (event (start_bytes 0))
unfolding event lent start_bytes definitions
begun0 = record { start = refl; taken = refl }

pub begun1 : Begun lent (event (start_bytes 1))
unfolding event lent start_bytes definitions
begun1 = record { start = refl; taken = refl }

pub begun2 : Begun lent (event (start_bytes 2))
unfolding event lent start_bytes definitions
begun2 = record { start = refl; taken = refl }

one : Event
unfolding event propose_bytes block_bytes
one = event (propose_bytes 1 genesis)

two : Event
unfolding event propose_bytes block_bytes
two = event (propose_bytes 2 (qc 1 7))

three : Event
unfolding event propose_bytes block_bytes
three = event (propose_bytes 3 (qc 2 7))

-- Place 2 leads round 2: the votes of 0 and 1 go to it, and with its own they make the QC of round 1.
run_of : ℕ → Course
run_of zero = record { lent = lent; start = event (start_bytes 0); begun = begun0; stages = uncut (one ∷ two ∷ three ∷ []) }
run_of (suc zero) = record { lent = lent; start = event (start_bytes 1); begun = begun1; stages = uncut (one ∷ two ∷ three ∷ []) }
run_of (suc (suc p)) =
    record { lent = lent; start = event (start_bytes 2); begun = begun2; stages = uncut (one ∷ event (vote_bytes 1 0) ∷ event (vote_bytes 1 1) ∷ two ∷ three ∷ []) }

outs0 : List Rec
outs0 =
    timer_reset
    ∷ clean_proposer (digest 0) (digest 0) (digest 1) ∷ vote 2 (digest 1) 1
    ∷ timer_reset ∷ clean_proposer (digest 0) (digest 1) (digest 2) ∷ clean_mempool 0 ∷ vote 3 (digest 2) 2
    ∷ timer_reset ∷ clean_proposer (digest 1) (digest 2) (digest 3) ∷ clean_mempool 1 ∷ commit (digest 1) 1 ∷ vote 0 (digest 3) 3 ∷ []

outputs0 : outputs (run_of 0) ≡ outs0
unfolding outs0 run_of event lent one two three start_bytes propose_bytes block_bytes definitions
outputs0 = refl

outs1 : List Rec
outs1 =
    timer_reset ∷ make 1 genesis
    ∷ clean_proposer (digest 0) (digest 0) (digest 1) ∷ vote 2 (digest 1) 1
    ∷ timer_reset ∷ clean_proposer (digest 0) (digest 1) (digest 2) ∷ clean_mempool 0 ∷ vote 3 (digest 2) 2
    ∷ timer_reset ∷ clean_proposer (digest 1) (digest 2) (digest 3) ∷ clean_mempool 1 ∷ commit (digest 1) 1 ∷ vote 0 (digest 3) 3 ∷ []

outputs1 : outputs (run_of 1) ≡ outs1
unfolding outs1 run_of event lent one two three start_bytes propose_bytes block_bytes definitions
outputs1 = refl

outs2 : List Rec
outs2 =
    timer_reset
    ∷ clean_proposer (digest 0) (digest 0) (digest 1) ∷ vote 2 (digest 1) 1
    ∷ timer_reset ∷ make 2 (qc 1 7)
    ∷ clean_proposer (digest 0) (digest 1) (digest 2) ∷ clean_mempool 0 ∷ vote 3 (digest 2) 2
    ∷ timer_reset ∷ clean_proposer (digest 1) (digest 2) (digest 3) ∷ clean_mempool 1 ∷ commit (digest 1) 1 ∷ vote 0 (digest 3) 3 ∷ []

outputs2 : outputs (run_of 2) ≡ outs2
unfolding outs2 run_of event lent one two three start_bytes propose_bytes block_bytes vote_bytes definitions
outputs2 = refl

-- ---- the members

abbrev ones4 : List ℕ
ones4 = 1 ∷ 1 ∷ 1 ∷ 1 ∷ []

-- place 3 breaks the rules
abbrev third : List ℕ
third = 8 ∷ []

same4 : (p : ℕ) → p < 4 → is_in third p ≡ 0 → committee (origin (run_of p)) ≡ ones4
unfolding run_of event lent start_bytes definitions
same4 zero h o = refl
same4 (suc zero) h o = refl
same4 (suc (suc p)) h o = refl

seated4 : (p : ℕ) → p < 4 → is_in third p ≡ 0 → (origin (run_of p)).seat.own.0 ≡ p
unfolding run_of event lent start_bytes definitions
seated4 zero h o = refl
seated4 (suc zero) h o = refl
seated4 (suc (suc zero)) h o = refl
seated4 (suc (suc (suc zero))) h o = absurd (omega (arith, o))
seated4 (suc (suc (suc (suc p)))) h o = absurd (omega arith)

pub four : Members
unfolding definitions
four = record { stakes = ones4; breakers = third; course = run_of; few = omega arith; same = same4; seated = seated4 }

-- ---- each of the three signs block 1 and block 2, and delivers block 1

delivers0 : Written (commit (digest 1) 1) (outputs (run_of 0))
unfolding outs0
delivers0 = record { before = take 10 outs0; rest = drop 11 outs0; is = outputs0 }

delivers1 : Written (commit (digest 1) 1) (outputs (run_of 1))
unfolding outs1
delivers1 = record { before = take 11 outs1; rest = drop 12 outs1; is = outputs1 }

delivers2 : Written (commit (digest 1) 1) (outputs (run_of 2))
unfolding outs2
delivers2 = record { before = take 11 outs2; rest = drop 12 outs2; is = outputs2 }

-- the three places that a list names
among : (p : ℕ) → member p (0 ∷ 1 ∷ 2 ∷ []) ≡ true → (p ≡ 0) ⊎ ((p ≡ 1) ⊎ (p ≡ 2))
unfolding member
among p e = cases (eqb p 0) (eqb p 1) (eqb p 2) refl refl refl e
  where
    cases : (a b c : Bool) → eqb p 0 ≡ a → eqb p 1 ≡ b → eqb p 2 ≡ c → (a || (b || (c || false))) ≡ true → (p ≡ 0) ⊎ ((p ≡ 1) ⊎ (p ≡ 2))
    cases true b c x y z e = inl (eqb-true p 0 x)
    cases false true c x y z e = inr (inl (eqb-true p 1 y))
    cases false false true x y z e = inr (inr (eqb-true p 2 z))
    cases false false false x y z e = absurd (let h : ◌≡◌ {A = ℕ} 0 1 = cc in omega arith)

-- the three who obey
obeying : (p : ℕ) → p < 4 → is_in third p ≡ 0 → (p ≡ 0) ⊎ ((p ≡ 1) ⊎ (p ≡ 2))
unfolding definitions
obeying zero h o = inl refl
obeying (suc zero) h o = inr (inl refl)
obeying (suc (suc zero)) h o = inr (inr refl)
obeying (suc (suc (suc zero))) h o = absurd (omega (arith, o))
obeying (suc (suc (suc (suc p)))) h o = absurd (omega arith)

module _ (p : ℕ) where
  signed1 : (p ≡ 0) ⊎ ((p ≡ 1) ⊎ (p ≡ 2)) → Signed four p (digest 1) 1
  unfolding four outs0 outs1 outs2
  signed1 (inl e) = rw e (record { to = 2; written = record { before = take 2 outs0; rest = drop 3 outs0; is = outputs0 } })
  signed1 (inr (inl e)) = rw e (record { to = 2; written = record { before = take 3 outs1; rest = drop 4 outs1; is = outputs1 } })
  signed1 (inr (inr e)) = rw e (record { to = 2; written = record { before = take 2 outs2; rest = drop 3 outs2; is = outputs2 } })

  signed2 : (p ≡ 0) ⊎ ((p ≡ 1) ⊎ (p ≡ 2)) → Signed four p (digest 2) 2
  unfolding four outs0 outs1 outs2
  signed2 (inl e) = rw e (record { to = 3; written = record { before = take 6 outs0; rest = drop 7 outs0; is = outputs0 } })
  signed2 (inr (inl e)) = rw e (record { to = 3; written = record { before = take 7 outs1; rest = drop 8 outs1; is = outputs1 } })
  signed2 (inr (inr e)) = rw e (record { to = 3; written = record { before = take 7 outs2; rest = drop 8 outs2; is = outputs2 } })

-- ---- certificates that meet every premise

-- Block 1, signed by 0, 1 and 2.
pub certificate1 : Certificate four (digest 1) 1
unfolding four definitions
certificate1 =
    record {
      part = qc_bytes (qc 1 7);
      hashed = refl;
      round = refl;
      other = refl;
      signers = record { 0 = 7 };
      accepted = refl;
      result = λ p o e. signed1 p (among p e);
    }

-- Block 1 once more, by all four: the signature of 3, who breaks the rules, binds nobody.
pub wider1 : Certificate four (digest 1) 1
unfolding four definitions
wider1 =
    record {
      part = qc_bytes (qc 1 15);
      hashed = refl;
      round = refl;
      other = refl;
      signers = record { 0 = 15 };
      accepted = refl;
      result = λ p o e. signed1 p (obeying p o.member o.obeys);
    }

-- Block 2, signed by 0, 1 and 2.
pub certificate2 : Certificate four (digest 2) 2
unfolding four definitions
certificate2 =
    record {
      part = qc_bytes (qc 2 7);
      hashed = refl;
      round = refl;
      other = refl;
      signers = record { 0 = 7 };
      accepted = refl;
      result = λ p o e. signed2 p (among p e);
    }

-- Each member that obeys delivers block 1.
pub delivers : (p : ℕ) → Sits four p → Written (commit (digest 1) 1) (outputs (four.course p))
unfolding four
delivers p o = cases (obeying p o.member o.obeys)
  where
    cases : (p ≡ 0) ⊎ ((p ≡ 1) ⊎ (p ≡ 2)) → Written (commit (digest 1) 1) (outputs (run_of p))
    cases (inl e) = rw e delivers0
    cases (inr (inl e)) = rw e delivers1
    cases (inr (inr e)) = rw e delivers2

-- ---- last committed is not below the round in every run

-- Three blocks of rounds 10, 11 and 12 by LOOPBACK, whose certificates are not taken: the round stays 1, and the first is delivered.
pub hasty : Course
hasty =
    record {
      lent = lent;
      start = event (start_bytes 0);
      begun = begun0;
      stages = uncut (event (loopback_bytes 10 genesis) ∷ event (loopback_bytes 11 (qc 10 7)) ∷ event (loopback_bytes 12 (qc 11 7)) ∷ []);
    }

pub committed-above : (committed_of (end hasty) ≡ 10) × (round_of (end hasty) ≡ 1)
unfolding hasty event lent start_bytes loopback_bytes block_bytes definitions
committed-above = (refl, refl)
