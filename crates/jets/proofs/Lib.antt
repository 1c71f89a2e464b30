pub mod Slopes
pub mod Fill
pub mod Levels
pub mod JetIn
pub mod NetIn
pub mod CartesianIn
