pub mod KeyFiles
pub mod Crashes
pub mod Store
pub mod History
