pub mod Overwrites
pub mod Moments
pub mod Beside
mod Disks
mod Picked
mod Named
