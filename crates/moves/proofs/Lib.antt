-- Laws of outcomes, of the moves from round to round, and of what follows from counting.
pub mod Outcomes
pub mod MoveLaws
pub mod TallyLaws
