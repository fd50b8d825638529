-- 01, Events: PROPOSE and LOOPBACK, which need the table of blocks t.
--     slot_for b                     the block as it is stored
--     arrival_for, work_for b last at   what the table is asked for: the block b, with the last committed round
--     after_settled, processed m own t b s   LOOPBACK's outcome
--     processed_table s t b          and the table that it leaves
--     going_on, going_on_table       PROPOSE, once its first part gave a proposal
use Rattle.std.specs.Prelude.{ℕ, true, cond, List, eqb}
use Rattle.certificates.specs.declared.numbers.Round.{Round}
use Rattle.trace.specs.declared.events.Block.{Block}
use Rattle.synchronizer.specs.declared.table.Slot.{Slot}
use Rattle.synchronizer.specs.declared.settle.Arrival.{Arrival}
use Rattle.synchronizer.specs.declared.settle.Work.{Work}
use Rattle.synchronizer.specs.Settle.{Settlement, brought, settled_of}
use Rattle.moves.specs.State.{State, with_core, with_committed}
use Rattle.moves.specs.Outcome.{Step, Outcome, done, after}
use Rattle.handlers.specs.Votes.{voting}
use Rattle.handlers.specs.Proposals.{Proposal}

-- the block as it is stored
abbrev pub slot_for : Block → Slot
slot_for b = record { used = true; digest = b.digest; round = b.round; parent = b.qc_hash; parent_round = b.qc_round }

-- what the table is asked for
abbrev pub arrival_for : Block → Round → ℕ → Arrival
arrival_for b last at = record { block = slot_for b; author = b.author; last = last; at = at }

abbrev pub work_for : Block → Round → ℕ → Work
work_for b last at = brought (arrival_for b last at)

-- parents, the store, CLEAN PROPOSER, CLEAN MEMPOOL and the commit
unfoldable pub settled_for : State → List Slot → Block → Settlement
settled_for s t b = settled_of t (work_for b s.core.last_committed_round 0)

-- ".. last committed becomes b0's round", with what was written up to then
abbrev pub settled_step : State → Settlement → Step
settled_step s p = record { state = with_core s (with_committed s.core p.last); outs = p.outs }

-- a refusal, or WAIT PARENT, keeps what was done; else the vote follows
unfoldable pub after_settled : List ℕ → ℕ → Block → State → Settlement → Outcome
after_settled m own b s p = cond (eqb p.answer 0) (after (settled_step s p) (voting m own b)) (done p.answer (settled_step s p))

-- LOOPBACK
unfoldable pub processed : List ℕ → ℕ → List Slot → Block → State → Outcome
processed m own t b s = after_settled m own b s (settled_for s t b)

unfoldable pub processed_table : List Slot → Block → State → List Slot
processed_table t b s = (settled_for s t b).table

-- PROPOSE: ".. payload; then as LOOPBACK."
unfoldable pub going_on : List ℕ → ℕ → List Slot → Block → Proposal → Outcome
going_on m own t b p = cond p.goes_on (after p.out.left (processed m own t b)) p.out

unfoldable pub going_on_table : List Slot → Block → Proposal → List Slot
going_on_table t b p = cond p.goes_on (processed_table t b p.out.left.state) t
