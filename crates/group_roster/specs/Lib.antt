pub mod Roster
pub mod Rules
pub mod Binary
pub mod Given
pub mod Toml
pub mod Ids
