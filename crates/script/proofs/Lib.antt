pub mod Spaces
pub mod Numbers
pub mod Limits
pub mod Names
pub mod Back
