pub mod Unanimity
pub mod VoteSlots
pub mod DifferentLogs
pub mod Justification
pub mod LeastDifference
pub mod OneKind
pub mod EmbeddedSlots
pub mod Standing
