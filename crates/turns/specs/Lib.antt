pub mod Turn
pub mod Code
pub mod Ledger
pub mod Pieces
