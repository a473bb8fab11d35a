pub mod Calls
pub mod Faults
pub mod Histories
pub mod Holdings
pub mod Journals
pub mod Playing
pub mod Standings
