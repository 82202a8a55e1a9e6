pub mod AnswerLemmas
pub mod ByteLists
pub mod Hashed
pub mod ListLemmas
pub mod PlaceLemmas
pub mod Readings
