pub mod Drawing
pub mod Drawn
