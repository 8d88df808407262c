pub mod Keeping
pub mod Joining
pub mod Logging
