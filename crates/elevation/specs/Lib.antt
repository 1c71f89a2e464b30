pub mod Breaks
pub mod Raise
pub mod Elevate
pub mod Joined
pub mod Whole
pub mod Passes
