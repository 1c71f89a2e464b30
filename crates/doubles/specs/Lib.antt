pub mod Value
pub mod Neighbour
pub mod Scaled
pub mod Place
pub mod Run
