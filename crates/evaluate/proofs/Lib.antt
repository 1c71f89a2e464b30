pub mod Summed
pub mod Steps
pub mod Curves
pub mod Nets
pub mod Surfaces
