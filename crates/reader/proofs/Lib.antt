-- Laws for the proofs of this crate and of those above it.
--     Places     what stands at a place and where the next record starts
pub mod Places
