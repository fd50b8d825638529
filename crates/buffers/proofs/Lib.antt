-- The laws of the loops.
pub mod Sums
pub mod Taken
