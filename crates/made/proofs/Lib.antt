pub mod Told
pub mod Reverses
pub mod Isos
pub mod IsoCurves
