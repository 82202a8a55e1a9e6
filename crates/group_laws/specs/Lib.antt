pub mod Entering
pub mod Promises
pub mod Forging
pub mod AllHonest
pub mod Members
pub mod Naming
pub mod Accountable
