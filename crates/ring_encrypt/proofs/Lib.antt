pub mod Filling
pub mod BitLemmas
pub mod Trits
pub mod OpeningLemmas
pub mod Exactness
pub mod KeyLemmas
pub mod ReducedLemmas
