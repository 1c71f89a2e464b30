pub mod Digits
pub mod Storing
pub mod Passes
pub mod Places
pub mod Rounding
pub mod Decimals
pub mod Patterns
pub mod Enclosing
