pub mod Put
pub mod Branches
pub mod Box
pub mod Vectors
pub mod FewPoints
pub mod Plain
pub mod Settled
pub mod Divided
