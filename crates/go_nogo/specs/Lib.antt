pub mod Votes
pub mod Stands
pub mod Rows
pub mod Closing
pub mod Differences
