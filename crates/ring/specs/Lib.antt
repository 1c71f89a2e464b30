pub mod Ring
pub mod Int
