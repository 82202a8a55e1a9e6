pub mod Residue
pub mod Product
pub mod Packing
pub mod PublicKey
pub mod Laws
