mod ShortLogs
mod Reached
