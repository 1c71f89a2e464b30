pub mod Trim
pub mod Passes
