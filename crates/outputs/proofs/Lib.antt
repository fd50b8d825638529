-- Laws of writes, for the proofs of this crate and of those above it.
pub mod Writes
pub mod Places
pub mod Recs
pub mod Wrote
pub mod Sizes
pub mod ReadBack
pub mod Cases
