pub mod Changes
pub mod Forms
mod KeysText
pub mod Lengths
mod Saying
mod Members
mod Pads
mod Slots
