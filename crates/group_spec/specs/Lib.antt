pub mod Alterations
pub mod Faulty
pub mod World
pub mod Driver
pub mod Delivered
pub mod Scripts
