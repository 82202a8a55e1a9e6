pub mod Secrets
pub mod Endings
pub mod Finding
