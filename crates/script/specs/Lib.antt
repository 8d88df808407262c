pub mod Fields
pub mod Commands
pub mod Written
