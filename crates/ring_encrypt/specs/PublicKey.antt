-- Public keys, honest or not.
pub use Rattle.ring_poly.specs.PublicKey.{IsPublicKey}
