pub mod Frame
pub mod Admission
pub mod Lengths
pub mod Own
