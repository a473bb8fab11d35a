pub mod Classes
pub mod Unauthorized
pub mod Worked
