pub mod Range
pub mod Read
