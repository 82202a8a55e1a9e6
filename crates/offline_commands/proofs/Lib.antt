pub mod Reading
pub mod Printing
pub mod TwoFiles
pub mod Promised
pub mod Written
pub mod Showing
pub mod Adapters
pub mod Convicting
