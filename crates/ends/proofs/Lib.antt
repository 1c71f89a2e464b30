pub mod Plain
pub mod Good
pub mod Same
pub mod Mixed
pub mod Net
