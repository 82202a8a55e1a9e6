pub mod Blocks
pub mod DigitSizes
pub mod Steps
pub mod Tables
pub mod Walking
pub mod Words
pub mod Signatures
