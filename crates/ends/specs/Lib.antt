pub mod Ends
pub mod Good
pub mod Flat
