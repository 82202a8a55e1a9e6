pub mod LineLemmas
pub mod MadeLemmas
pub mod NumberLemmas
pub mod OptionalLemmas
pub mod ReadLemmas
pub mod SpelledLemmas
