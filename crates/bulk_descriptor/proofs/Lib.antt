pub mod PartLemmas
pub mod SpellingLemmas
pub mod MakingLemmas
pub mod FittingLemmas
pub mod CodeLemmas
