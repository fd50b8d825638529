pub mod Rows
pub mod Tally
pub mod Tallies
pub mod Keys
