pub mod Faults
pub mod Format
pub mod Inputs
pub mod Numbers
pub mod Reading
pub mod RoundTrips
pub mod Writing
