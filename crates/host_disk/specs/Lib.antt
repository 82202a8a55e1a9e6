pub mod Placed
pub mod Memory
pub mod Faults
pub mod Room
