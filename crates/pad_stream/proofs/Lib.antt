pub mod ExclusiveOrLemmas
pub mod StreamLemmas
