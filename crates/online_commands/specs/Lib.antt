pub mod TakingPart
pub mod Promise
