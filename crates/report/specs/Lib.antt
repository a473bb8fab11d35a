pub mod Late
pub mod Listing
pub mod Named
pub mod Outputs
pub mod Prices
pub mod Rows
pub mod Statements
pub mod Tariffs
