pub mod Answers
pub mod Bytes
pub mod Hash
pub mod Place
pub mod Places
pub mod Reading
pub mod Register
pub use Rattle.sha2.specs.Sha256
