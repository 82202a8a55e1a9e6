pub mod Accusations
pub mod Claims
pub mod Heads
pub mod Listings
pub mod Transcripts
