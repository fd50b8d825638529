pub mod Fields
pub mod Records
pub mod Put
pub mod Reads
