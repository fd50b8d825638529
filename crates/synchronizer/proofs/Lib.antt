pub mod Cases
pub mod ChainLaws
pub mod KeptLaws
pub mod Lookups
pub mod SettleLaws
pub mod TableLaws
pub mod Tests
pub mod WalkLaws
