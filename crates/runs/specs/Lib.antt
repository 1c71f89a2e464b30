pub mod Coordinate
pub mod Point
pub mod Weight
pub mod Fraction
pub mod Scale
pub mod Larger
pub mod Tabulate
pub mod Lent
