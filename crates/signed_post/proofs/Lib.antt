pub mod Frames
pub mod Admits
pub mod Lengths
