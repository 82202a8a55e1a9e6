pub mod Tree
pub mod Secret
pub mod States
