pub mod Test
pub mod Refused
