-- Facts on values that the functions' proofs cite, and that each operation encloses.
pub mod Facts
pub mod Symmetric
pub mod Around
pub mod Nans
pub mod Contain
pub mod Quotients
