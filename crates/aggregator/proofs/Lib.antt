-- the laws that belong to no one function
pub mod Rows
pub mod Chunks
pub mod TallyLaws
pub mod TableLaws
pub mod Additions
pub mod Laws
pub mod Cases
