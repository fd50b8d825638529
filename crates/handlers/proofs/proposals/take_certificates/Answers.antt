-- `handlers::proposals::take_certificates` meets its contract: the QC is taken; then nothing, or the round is advanced.
-- Assumes nothing.
use native.Mathlib.Omega.{arith}
use borrow.Author.Rules.{rules}
use Rattle.handlers.proofs.ProposalLaws.{take_none, take-tc}
use Rattle.handlers.proofs.proposals.take_certificates.Goals as goal

pub returns-in-None : goal.returns-in-None
returns-in-None c = search (rules, take_none)

pub advance_round-requires : goal.advance_round-requires
advance_round-requires c =
    (omega (arith, c.requires.0, rw c.in-Some.is at c.requires.1), search rules, search rules, omega (arith, c.process_qc-a.ensures.bytes.room))

pub returns-in-Some : goal.returns-in-Some
returns-in-Some c =
    take-tc c.args.core _ _ c.args.b c.args.signers c.process_qc-a.ensures c.in-Some.is c.advance_round.ensures
