pub mod Stream
pub mod ExclusiveOr
pub use Rattle.wire_core.specs.Hash
