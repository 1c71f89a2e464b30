pub mod Ops
pub mod Numbers
pub mod Inside
