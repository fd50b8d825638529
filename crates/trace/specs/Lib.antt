pub mod Part
pub mod Record
pub mod Layout
pub mod Form
pub mod Limits
pub mod Fields
