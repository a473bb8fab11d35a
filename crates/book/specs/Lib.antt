pub mod Books
pub mod Days
pub mod Slots
pub mod Tables
pub mod Terms
pub mod Years
