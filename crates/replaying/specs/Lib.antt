pub mod Digits
pub mod Same
pub mod Worked
