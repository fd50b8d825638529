pub mod Numbers
pub mod Num
pub mod Config
pub mod Start
pub mod Leader
pub mod Signers
pub mod Messages
pub mod Error
