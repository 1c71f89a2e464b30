pub mod Cases
pub mod Outside
pub mod Tabulated
pub mod Overlays
pub mod Stores
pub mod Cleared
pub mod Largest
