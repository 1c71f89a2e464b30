pub mod Rational
pub mod Spline
pub mod Second
pub mod Surface
pub mod Boehm
pub mod Bernstein
pub mod Scheme
pub mod Edit
