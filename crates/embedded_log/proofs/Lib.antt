pub mod EmbeddedLogs
pub mod EmbeddedPosts
pub mod Justified
