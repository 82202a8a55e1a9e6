pub mod Faults
pub mod Keys
pub mod Spelled
pub mod Rosters
pub mod TomlLemmas
pub mod Ids
