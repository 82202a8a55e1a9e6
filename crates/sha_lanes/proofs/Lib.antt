mod FourLanes
mod OneBlock
mod Rotations
mod Schedules
pub mod Lanes
