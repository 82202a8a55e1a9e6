pub mod Layer
pub mod Laws
pub mod Peeling
pub mod Stripping
pub use Rattle.ring_encrypt.specs.Capsule
pub use Rattle.ring_encrypt.specs.Opening
pub use Rattle.pad_stream.specs.Stream
pub use Rattle.pad_stream.specs.ExclusiveOr
