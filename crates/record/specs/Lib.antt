pub mod Format
pub mod Reading
pub mod Numbers
pub mod Validated
pub mod Writing
pub mod Worked
