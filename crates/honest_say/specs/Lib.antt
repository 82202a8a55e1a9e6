pub mod Seats
pub mod Pasts
pub mod Own
pub mod Rows
pub mod Opened
pub mod Closings
pub mod Stays
