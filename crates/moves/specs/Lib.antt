pub mod State
pub mod Outcome
pub mod Moves
pub mod Tallied
