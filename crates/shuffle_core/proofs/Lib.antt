pub mod Drawn
pub mod LayerSeeds
pub mod Opened
pub mod Submitted
pub mod Turns
