pub mod RoundTrips
pub mod Widths
