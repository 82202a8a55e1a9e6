pub mod Accusation
pub mod Claim
pub mod Form
pub mod Listed
pub mod Passing
pub mod Refusals
pub mod Transcript
