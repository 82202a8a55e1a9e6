pub mod AccusationLemmas
pub mod TestLemmas
pub mod ItemLemmas
