-- Laws for the proofs of this crate and of those above it.
--     HandedLaws    the three parts of an event over a record by value, put together
--     Theorems      what follows from the contract of `step`
pub mod HandedLaws
pub mod Theorems
