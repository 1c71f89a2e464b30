pub mod Lines
pub mod Ranges
pub mod Walked
