pub mod Draws
pub mod Capsule
pub mod Opening
pub mod PublicKey
pub mod Reduced
pub use Rattle.wire_core.specs.Hash
pub use Rattle.ring_poly.specs.Product
pub use Rattle.ring_poly.specs.Packing
