pub mod Ran
pub mod Begun
