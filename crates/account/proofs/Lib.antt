pub mod Answered
pub mod Entered
pub mod Openings
pub mod Settlements
pub mod Turns
