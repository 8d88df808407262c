pub mod Calls
pub mod Comparing
