pub mod Record
pub mod Stages
