pub mod Ridden
pub mod Riders
pub mod Weather
pub mod Worked
