pub mod OneTime
pub mod Signing
pub mod Walks
