pub mod Lawful
pub mod Made
pub mod Money
pub mod Sums
