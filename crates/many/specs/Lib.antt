pub mod Rows
pub mod Start
pub mod Points
pub mod Spans
pub mod Numbers
pub mod RowsHold
