pub mod Started
pub mod Blocks
pub mod Step
pub mod Stages
pub mod Order
