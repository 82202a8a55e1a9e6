pub mod Frames
pub mod Counts
