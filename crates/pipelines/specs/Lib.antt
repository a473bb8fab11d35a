pub mod Balancing
pub mod Bounds
pub mod Northern
pub mod Tolerance
pub mod Worked
