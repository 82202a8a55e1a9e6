pub mod Deliveries
pub mod Plainness
pub mod Made
pub mod Posts
pub mod Queues
