pub mod Solved
pub mod Solver
