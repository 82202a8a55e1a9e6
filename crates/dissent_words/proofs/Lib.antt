pub mod Digits
pub mod PlainWords
pub mod Reading
pub mod Requests
pub mod Rules
pub mod Walking
