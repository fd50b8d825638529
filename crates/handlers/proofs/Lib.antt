-- The laws of the handlers, for the proofs of this crate and of those above it.
pub mod HandlerLaws
pub mod VoteLaws
pub mod VoteTheorems
pub mod TimeoutLaws
pub mod TCLaws
pub mod TickLaws
pub mod TimeoutTheorems
pub mod ProposalLaws
pub mod ProposalTheorems
pub mod Cases
