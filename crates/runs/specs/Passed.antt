-- Events that bring a block, by what becomes of them.
--     Passed w e          the event e is a PROPOSE that passes its checks in the world w, whatever its payload and its parent
--     Looped w e          it is a LOOPBACK that is taken
--     Waits w e           it is a PROPOSE that is answered 2 or 3
use Rattle.std.specs.Prelude.{true, ◌⊎◌, ◌≡◌, length, Some}
use Rattle.certificates.specs.Error.{wait_parent, wait_payload}
use Rattle.trace.specs.declared.events.Kind.{Kind}
use Rattle.trace.specs.Form.{form_of}
use Rattle.trace.specs.Limits.{limit_of}
use Rattle.trace.specs.Fields.{block_of}
use Rattle.handlers.specs.Proposals.{qc_found, proposal_check}
use Rattle.replica.specs.Started.{roomy}
use Rattle.replica.specs.Step.{World, committee}
use Rattle.runs.specs.Runs.{Event, step_on}

-- neither the room nor a limit refuses it, and none of "leader; author stake; verdict; QC; TC"
pub record Passed (w : World) (e : Event) : Type 0 where
  pub kind : form_of e.bytes ≡ Some Kind.Propose
  pub room : roomy (length w.table) e.room ≡ true
  pub limits : limit_of e.bytes Kind.Propose ≡ 0
  pub checks : proposal_check (committee w) (block_of e.bytes) e.bytes (qc_found (committee w) e.bytes) ≡ 0

-- neither the room nor a limit refuses it; nothing else is checked
pub record Looped (w : World) (e : Event) : Type 0 where
  pub kind : form_of e.bytes ≡ Some Kind.Loopback
  pub room : roomy (length w.table) e.room ≡ true
  pub limits : limit_of e.bytes Kind.Loopback ≡ 0

-- a PROPOSE answered WAIT PARENT or WAIT PAYLOAD; each passes its checks (`waits-passed` of proofs/Answers)
pub record Waits (w : World) (e : Event) : Type 0 where
  pub kind : form_of e.bytes ≡ Some Kind.Propose
  pub waits : ((step_on w e).answer ≡ wait_parent) ⊎ ((step_on w e).answer ≡ wait_payload)
