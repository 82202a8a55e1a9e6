pub mod Blocks
pub mod Climbs
pub mod FourParts
pub mod KeyBytes
pub mod OwnPaths
pub mod OwnTrees
pub mod Validity
