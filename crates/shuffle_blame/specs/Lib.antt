pub mod Replay
pub mod Laws
pub mod Asked
pub mod Rules
