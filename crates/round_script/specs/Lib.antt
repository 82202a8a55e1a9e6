pub mod Fault
pub mod Forms
pub mod Given
pub mod Lines
pub mod Made
pub mod Read
pub mod Script
