pub mod Groups
pub mod Members
pub mod Scripts
pub mod Worlds
