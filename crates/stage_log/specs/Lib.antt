pub mod Table
pub mod Put
pub mod Log
pub mod Running
pub mod Seen
pub mod Views
