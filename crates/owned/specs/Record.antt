-- The replica record by value. 01: "A replica record handed in ..", "Hash maps become fixed tallies held by value."
--     world_of r t           the world of a record and a table
--     handed_left h t out    what code hands back, with the table and the output that it leaves
--     no_replica             the record of zeros
use Rattle.std.specs.Prelude.{ℕ, List, replicate}
use Rattle.certificates.specs.Error.{number}
use Rattle.certificates.specs.Numbers.{zero_hash}
use Rattle.certificates.specs.Config.{members_max}
use Rattle.aggregator.specs.Tallies.{votes_length, timeouts_length}
use Rattle.synchronizer.specs.declared.table.Slot.{Slot}
use Rattle.replica.specs.Step.{World, Left, world}
use Rattle.owned.specs.declared.record.Replica.{Replica}
use Rattle.owned.specs.declared.record.Handed.{Handed}

abbrev pub world_of : Replica → List Slot → World
world_of r t = world r.seat r.stakes r.core r.votes r.timeouts t

abbrev pub handed_left : Handed → List Slot → List ℕ → Left
handed_left h t out = record { answer = number h.answer; world = world_of h.replica t; written = h.written; out = out }

abbrev pub no_replica : Replica
no_replica =
    record {
      seat = record { count = 0; own = record { 0 = 0 } };
      core = record {
        round = record { 0 = 0 };
        last_voted_round = record { 0 = 0 };
        last_committed_round = record { 0 = 0 };
        high_qc = record { hash = zero_hash; round = record { 0 = 0 }; signers = record { 0 = 0 } };
      };
      stakes = replicate members_max 0;
      votes = replicate votes_length 0;
      timeouts = replicate timeouts_length 0;
    }
