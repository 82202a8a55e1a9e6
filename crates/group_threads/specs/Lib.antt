pub mod Given
pub mod Playing
pub mod Scripted
