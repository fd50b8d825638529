pub mod Contents
pub mod Rules
pub mod Ledgers
pub mod HandedOut
pub mod Left
pub mod Bytes
