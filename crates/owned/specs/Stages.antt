-- What the code of the parts of an event does, over a record by value: `replica`'s parts, at the fields.
--     Opens       what the first part leaves
--     Closable    what the last part asks for, where there is a block
--     Closes      what the last part leaves
use Rattle.std.specs.Prelude.{ℕ, List, ◌≡◌, length}
use Rattle.certificates.specs.Error.{number}
use Rattle.handlers.specs.Votes.{voting_most}
use Rattle.trace.specs.Fields.{block_of}
use Rattle.moves.specs.State.{whole}
use Rattle.moves.specs.Outcome.{Outcome}
use Rattle.synchronizer.specs.declared.settle.Settled.{Settled}
use Rattle.replica.specs.declared.stages.Stepped.{Stepped}
use Rattle.replica.specs.Started.{members_of, roomy}
use Rattle.replica.specs.Stages.{staged_of, finished_of, Begins, Finishable, Finishes}
use Rattle.owned.specs.declared.record.Replica.{Replica}
use Rattle.owned.specs.declared.record.Handed.{Handed}
use Rattle.owned.specs.declared.stages.Opened.{Opened}

abbrev pub Opens : Replica → ℕ → List ℕ → List ℕ → Opened → List ℕ → Type 0
Opens r slots input before o after =
    Begins (staged_of r.seat r.stakes (whole r.core r.votes r.timeouts) (roomy slots (length before)) input) (roomy slots (length before)) input before
    o.begun o.stakes o.votes o.timeouts after

abbrev pub Closable : Opened → Settled → List ℕ → ℕ → Type 0
Closable o s input out = Finishable o.begun s input o.stakes o.votes o.timeouts out

-- the part of what is handed back that goes by value in `replica` too
abbrev pub stepped_in : Handed → Stepped
stepped_in h = record { answer = h.answer; seat = h.replica.seat; core = h.replica.core; written = h.written }

-- the outcome that the last part is asked for
abbrev pub closing : Opened → Settled → List ℕ → Outcome
closing o s input =
    finished_of (members_of o.begun.seat o.stakes) o.begun.seat.own.0 (whole o.begun.core o.votes o.timeouts) o.begun.does (number o.begun.answer) (number s.answer) s.last.0 (block_of input)

pub record Closes (o : Opened) (s : Settled) (input before : List ℕ) (h : Handed) (after : List ℕ) : Type 0 where
  pub held : h.replica.stakes ≡ o.stakes
  pub done : Finishes (closing o s input) voting_most o.begun.seat before s.at (stepped_in h) h.replica.votes h.replica.timeouts after
