pub mod Table
pub mod Walk
pub mod Settle
pub mod Parts
pub mod Kept
