pub mod LayerLemmas
pub mod WrapLemmas
pub mod Swaps
pub mod StrippingLemmas
pub mod ThroughLemmas
