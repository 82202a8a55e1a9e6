pub mod Naming
pub mod Evidence
pub mod Faulty
pub mod Agreed
pub mod Messages
pub mod SameList
pub mod Lengths
pub mod AllHonest
