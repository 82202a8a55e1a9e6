pub mod Carried
pub mod Closed
pub mod Convicting
pub mod Judgement
pub mod Shorts
pub mod Telling
