-- The laws of this crate.
--     Fronts      what stands at the front
--     Closings    the ANSWER behind the outputs
--     TurnLaws    what the code of a turn did, put together
--     LedgerLaws  the output records of a whole trace, by its front
--     Pieces      a trace that is read in pieces
--     Theorems    what a reader of the contract and of `ledger_of` may rely on
pub mod Fronts
pub mod Closings
pub mod TurnLaws
pub mod LedgerLaws
pub mod Pieces
pub mod Theorems
