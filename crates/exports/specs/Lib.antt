pub mod Tables
pub mod Answer
pub mod Intervals
pub mod Boxes
pub mod Points
pub mod Edits
pub mod Rows
