pub mod Controls
pub mod Curve
pub mod Curve2
pub mod Surface
pub mod Numbers
