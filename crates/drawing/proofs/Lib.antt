pub mod Outermost
pub mod InParts
