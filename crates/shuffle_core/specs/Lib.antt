pub mod Shuffle
pub mod Laws
