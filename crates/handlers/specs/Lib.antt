pub mod Sound
pub mod Votes
pub mod Timeouts
pub mod Proposals
