pub mod Insert
pub mod Fold
pub mod Times
pub mod Whole
pub mod Placed
pub mod Passes
