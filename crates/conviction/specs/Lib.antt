pub mod Accepts
pub mod Framing
pub mod Blame
