pub mod Numbered
pub mod Titled
pub mod Turns
pub mod Whole
