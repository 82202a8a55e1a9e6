pub mod Disk
pub mod Names
pub mod Naming
pub mod Memory
pub mod Picks
