pub mod Jet
pub mod Net
pub mod Cartesian
pub mod Three
