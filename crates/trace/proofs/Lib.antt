-- Laws for the proofs of this crate and of those above it.
--     Parts, Bounds                                            parts of a list and reads in them; the largest of some numbers
--     Fronts, Forms                                            the front of a trace by cases, and a record too short for a kind
--     FrontLaws, PartLaws, FieldLaws, FormLaws, LimitLaws      what crates above cite
pub mod Parts
pub mod Bounds
pub mod Fronts
pub mod Forms
pub mod FrontLaws
pub mod PartLaws
pub mod FieldLaws
pub mod FormLaws
pub mod LimitLaws
