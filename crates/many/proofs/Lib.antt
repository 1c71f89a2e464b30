pub mod Said
pub mod Rows
pub mod Evaluated
pub mod Bounded
pub mod RowsHold
