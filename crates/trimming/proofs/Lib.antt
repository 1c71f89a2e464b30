pub mod Widths
pub mod Ranges
pub mod Ends
pub mod Cutting
pub mod Source
pub mod Same
