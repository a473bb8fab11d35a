pub mod Months
pub mod Whole
