pub mod Reverse
pub mod Iso
pub mod IsoCurve
