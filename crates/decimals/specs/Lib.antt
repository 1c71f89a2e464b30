pub mod Ascii
pub mod Text
pub mod Fixed
pub mod Figures
pub mod Stored
pub mod Worked
