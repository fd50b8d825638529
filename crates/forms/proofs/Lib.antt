-- The laws of this crate.
--     Turns      a record to be answered ends in the trace
--     Runs       the numbers of a trace by its answers, and what holds from answer to answer of `run`
--     Pieces     a trace that is read in pieces
pub mod Turns
pub mod Runs
pub mod Pieces
