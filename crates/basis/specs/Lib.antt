pub mod Floats
pub mod Basis
pub mod Ders
