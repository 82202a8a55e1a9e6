pub mod Traffic
pub mod Memory
