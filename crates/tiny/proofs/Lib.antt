-- A product below the smallest normal number, its rounding by one division, and that a factor stands for its double.
pub mod Units
pub mod Halves
pub mod Factors
